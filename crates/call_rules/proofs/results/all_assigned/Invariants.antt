use Rattle.type_model.specs.Tables.{types_in}
use Rattle.builtin_rules.specs.InCode.{signature_by}
use Rattle.call_rules.proofs.ResultLemmas.{IsRest}
use Rattle.call_rules.proofs.results.all_assigned.Given as goal

abbrev pub invariant-loop-i : goal.invariant-loop-i
invariant-loop-i l = IsRest l.u l.s (signature_by l.s l.sig) (types_in l.s.table) l.results l.i

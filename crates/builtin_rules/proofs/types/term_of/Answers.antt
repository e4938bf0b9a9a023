use Rattle.std.proofs.Common.{arith}
use Rattle.type_model.specs.Tables.{count}
use Rattle.type_rel.proofs.TermLaws.{over_more}
use Rattle.builtin_rules.proofs.types.term_of.Goals as goal

pub returns-clause-over : goal.returns-clause-over
returns-clause-over c = over_more c.args.t.0 (count c.args.s.now.table) (omega (arith, c.requires.within)) c.term.result.now c.term.ensures.over

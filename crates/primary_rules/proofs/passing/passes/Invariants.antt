use Rattle.std.proofs.Common.{◌≡◌}
use Rattle.rule_words.specs.Scenes.{type_in}
use Rattle.primary_rules.proofs.PassLemmas.{Goes}
use Rattle.primary_rules.proofs.passing.passes.Given as goal

abbrev pub invariant-loop-i : goal.invariant-loop-i
invariant-loop-i l = Goes l.u l.s (type_in l.s l.fn.a) l.path l.i l.at

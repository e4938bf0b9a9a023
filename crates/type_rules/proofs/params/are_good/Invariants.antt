use Rattle.std.proofs.Common.{◌≡◌}
use Rattle.rule_words.specs.Scenes.{parts_in}
use Rattle.type_rules.specs.Signatures.{are_good}
use Rattle.type_rules.proofs.params.are_good.Given as goal

abbrev pub invariant-loop-i : goal.invariant-loop-i
invariant-loop-i l = l.good ≡ are_good (parts_in l.s l.parts) l.i

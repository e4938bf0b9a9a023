use Rattle.std.proofs.Common.{◌≡◌, map}
use Rattle.unit_read.specs.Subjects.{unit_of}
use Rattle.rule_words.specs.Scenes.{parts_in}
use Rattle.type_rules.specs.Elements.{method_in}
use Rattle.type_rules.specs.Joining.{clash_among}
use Rattle.type_rules.proofs.joining.clash_among.Given as goal

abbrev pub invariant-loop-k : goal.invariant-loop-k
invariant-loop-k l = l.found ≡ clash_among (unit_of l.u) l.file (map (method_in l.s) l.methods) l.reads (parts_in l.s l.parts) l.k

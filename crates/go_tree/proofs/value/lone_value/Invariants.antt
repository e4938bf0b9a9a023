use Rattle.std.proofs.Common.{◌≡◌, drop}
use Rattle.go_tree.specs.declared.class.Escape.TheVariants.{Slash}
use Rattle.go_tree.specs.Values.{lone_value}
use Rattle.go_tree.proofs.value.lone_value.Given as goal

abbrev pub invariant-loop-b : goal.invariant-loop-b
invariant-loop-b l = lone_value l.state (drop l.b-index l.bytes) ≡ lone_value Slash l.bytes

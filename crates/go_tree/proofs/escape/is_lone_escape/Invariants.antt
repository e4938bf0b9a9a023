use Rattle.std.proofs.Common.{◌≡◌, take}
use Rattle.std.specs.List.{fold}
use Rattle.go_tree.specs.declared.class.Escape.TheVariants.{Slash}
use Rattle.go_tree.specs.Escapes.{lone_step}
use Rattle.go_tree.proofs.escape.is_lone_escape.Given as goal

abbrev pub invariant-loop-b : goal.invariant-loop-b
invariant-loop-b l = fold lone_step Slash (take l.b-index l.bytes) ≡ l.state

use Rattle.std.proofs.Common.{◌≡◌, take}
use Rattle.std.specs.List.{fold}
use Rattle.go_tree.specs.declared.class.Escape.TheVariants.{Plain}
use Rattle.go_tree.specs.Escapes.{escape_step}
use Rattle.go_tree.proofs.escape.escapes_well.Given as goal

abbrev pub invariant-loop-b : goal.invariant-loop-b
invariant-loop-b l = fold (escape_step l.quote) Plain (take l.b-index l.bytes) ≡ l.state

use Rattle.std.proofs.Common.{◌≡◌, take}
use Rattle.std.specs.List.{fold}
use Rattle.go_tree.specs.declared.class.Digits.TheVariants.{Due}
use Rattle.go_tree.specs.Numbers.{digits_step}
use Rattle.go_tree.proofs.number.are_digits.Given as goal

abbrev pub invariant-loop-b : goal.invariant-loop-b
invariant-loop-b l = fold (digits_step l.base) Due (take l.b-index l.bytes) ≡ l.state

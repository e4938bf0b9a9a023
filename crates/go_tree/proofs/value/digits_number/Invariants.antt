use Rattle.std.proofs.Common.{◌≡◌, drop}
use Rattle.std.specs.List.{fold}
use Rattle.go_tree.specs.Values.{number_with}
use Rattle.go_tree.proofs.value.digits_number.Given as goal

abbrev pub invariant-loop-b : goal.invariant-loop-b
invariant-loop-b l = fold (number_with l.base) l.n (drop l.b-index l.digits) ≡ fold (number_with l.base) 0 l.digits

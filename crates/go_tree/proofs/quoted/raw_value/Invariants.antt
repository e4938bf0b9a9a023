use Rattle.std.proofs.Common.{◌≡◌, take}
use Rattle.std.specs.List.{filter}
use Rattle.go_tree.specs.Values.{is_kept}
use Rattle.go_tree.proofs.quoted.raw_value.Given as goal

abbrev pub invariant-loop-b : goal.invariant-loop-b
invariant-loop-b l = l.text.items ≡ filter is_kept (take l.b-index l.body)

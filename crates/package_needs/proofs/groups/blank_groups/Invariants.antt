use Rattle.std.proofs.Common.{◌≡◌, ℕ, [], length}
use Rattle.object_order.specs.Views.{group_in}
use Rattle.package_needs.proofs.groups.blank_groups.Given as goal

abbrev pub invariant-loop-n : goal.invariant-loop-n
invariant-loop-n l = record { size : length l.groups.items ≡ l._n; empty : (k : ℕ) → group_in l.groups.items k ≡ [] }

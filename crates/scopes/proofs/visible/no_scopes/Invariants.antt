use Rattle.std.proofs.Common.{◌≡◌, length}
use Rattle.scopes.specs.Visible.{AllEmpty}
use Rattle.scopes.proofs.visible.no_scopes.Given as goal

abbrev pub invariant-loop-name : goal.invariant-loop-name
invariant-loop-name l = record { size : length l.stacks.items ≡ l._name; empty : AllEmpty l.stacks.items }

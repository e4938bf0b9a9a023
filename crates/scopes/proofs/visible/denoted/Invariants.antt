use Rattle.std.proofs.Common.{◌≡◌, ◌≤◌, ◌<◌, ℕ, length, slice_get, slice_index_or, Some, None}
use Rattle.scopes.specs.declared.visible.Use.{Use}
use Rattle.scopes.specs.Denotes.{Answers}
use Rattle.scopes.specs.Visible.{Walked}
use Rattle.scopes.proofs.visible.denoted.Given as goal

abbrev pub invariant-loop-sought : goal.invariant-loop-sought
invariant-loop-sought l = record {
  size : length l.visible.items ≡ l.names;
  within : l.next ≤ length l.declarations;
  walked : Walked l.declarations l.uses l.sought-index l.next l.visible.items;
  count : length l.answers.items ≡ l.sought-index;
  so_far : (j : ℕ) (v : Use) → j < l.sought-index → slice_get l.uses j ≡ Some v → Answers l.declarations v (slice_index_or l.answers.items j None);
}

-- Declarations that shadow results, told apart by their functions in the place of names.
use Rattle.std.specs.Prelude.{ℕ, ◌<◌, ◌+◌, ◌≡◌, ◌&&◌, not, Bool, true, false, List, length, Option, Some, None, is_some, unwrap_or, option_and_then, if◌then◌else◌, get_or, slice_get}
use Rattle.go_tree.specs.declared.tree.FileTree.{FileTree}
use Rattle.scopes.specs.declared.scope.Named.{Named}
use Rattle.scopes.specs.declared.visible.Declaration.{Declaration}
use Rattle.file_uses.specs.Numbers.{name_in}
use Rattle.shadowed_results.specs.Kinds.{is_body_of, is_bare_at}
use Rattle.shadowed_results.specs.Tables.{of_nodes}

-- a result of the function has the name
abbrev pub has_result : (ℕ → List ℕ → Option ℕ) → ℕ → Option (List ℕ) → Bool
has_result kept f None = false
has_result kept f (Some q) = is_some (kept f q)

abbrev pub shadows : List ℕ → FileTree → (ℕ → List ℕ → Option ℕ) → Named → ℕ → Bool
shadows bytes tree kept d f = not (is_body_of tree.nodes f d.end) && has_result kept f (name_in bytes tree d.node)

abbrev pub shadow_in : List ℕ → FileTree → (ℕ → List ℕ → Option ℕ) → Named → ℕ → Option ℕ
shadow_in bytes tree kept d f = if shadows bytes tree kept d f then Some f else None

-- the function of which a declared name shadows a result, in a block within its body
abbrev pub shadow_of : List ℕ → FileTree → (ℕ → List ℕ → Option ℕ) → List (Option ℕ) → Named → Option ℕ
shadow_of bytes tree kept functions d = option_and_then (shadow_in bytes tree kept d) (of_nodes functions d.end)

-- the same region, under the number of a function, or one that none has
abbrev pub under : ℕ → Named → Option ℕ → Declaration
under total d None = record { name = total; start = d.start; «end» = d.end; local = false }
under total d (Some f) = record { name = f; start = d.start; «end» = d.end; local = true }

abbrev pub turned : List ℕ → FileTree → (ℕ → List ℕ → Option ℕ) → List (Option ℕ) → Named → Declaration
turned bytes tree kept functions d = under (length tree.nodes) d (shadow_of bytes tree kept functions d)

-- the number of a function, or one that none has
abbrev pub or_total : ℕ → Option ℕ → ℕ
or_total total function = unwrap_or function total

-- a bare `return` for which there is an answer
abbrev pub is_flagged : FileTree → List (Option ℕ) → ℕ → Bool
is_flagged tree answers n = is_bare_at tree.nodes n && is_some (get_or answers n None)

-- each number below a count has its value
pub record AreValues (value : ℕ → Bool) (count : ℕ) (flags : List Bool) : Type 0 where
  pub size : length flags ≡ count
  pub each : (n : ℕ) → n < count → get_or flags n false ≡ value n

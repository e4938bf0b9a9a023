-- The names of a file's nodes, by number.
use Rattle.std.specs.Prelude.{ℕ, ◌<◌, ◌≡◌, cond, List, length, get_or, Option, Some, None, slice_get, option_map, option_and_then, unwrap_or, if◌then◌else◌, ◌↔◌}
use Rattle.std.specs.Str.{bytes_eq}
use denote.Ref.{Bor}
use Rattle.std.specs.HashMap.{HashMap, get_by}
use Rattle.go_tree.specs.declared.tree.FileTree.{FileTree}
use Rattle.scopes.specs.Regions.{form_of, is_name}
use Rattle.go_tree.specs.Spelling.{text_of}

-- the name that a node is, if it is one
abbrev pub name_in : List ℕ → FileTree → ℕ → Option (List ℕ)
name_in bytes tree n =
    option_and_then (λ node. cond (is_name (form_of node.kind)) (option_map (text_of bytes) (slice_get tree.tokens node.first)) None) (slice_get tree.nodes n)

-- the number that a name has
abbrev pub found : {S : Type 0} → HashMap (Bor (List ℕ)) ℕ S → List ℕ → Option ℕ
found names name = get_by (λ key. bytes_eq name key.now) names

-- the number of a node's name: 0 where it is none, else that which the name has, or the next one, which it then has
abbrev pub IsNumbered : Option (List ℕ) → (List ℕ → Option ℕ) → (List ℕ → Option ℕ) → ℕ → ℕ → Type 0
IsNumbered None old new next n = (n ≡ 0) × ((q : List ℕ) → new q ≡ old q)
IsNumbered (Some name) old new next n = (n ≡ unwrap_or (old name) next) × ((q : List ℕ) → new q ≡ (if bytes_eq name q then Some n else old q))

-- the number of a node: 0 where there is no such node
abbrev pub number : List ℕ → ℕ → ℕ
number numbers n = get_or numbers n 0

-- Two nodes have the same number exactly where they have the same name, or none. All numbers are below a count.
pub record IsNumbering (name : ℕ → Option (List ℕ)) (total : ℕ) (numbers : List ℕ) (count : ℕ) : Type 0 where
  pub size : length numbers ≡ total
  pub below : (k : ℕ) → number numbers k < count
  pub same : (j k : ℕ) → (number numbers j ≡ number numbers k) ↔ (name j ≡ name k)

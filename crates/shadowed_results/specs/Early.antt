-- Functions whose results have names, and the `return`s without values in them.
use Rattle.std.specs.Prelude.{ℕ, ◌≡◌, ◌⊎◌, ◌&&◌, ◌||◌, nat_lt, Bool, true, false, List, [], ◌∷◌, length, slice_get}
use Rattle.std.specs.Option.{option_map_or}
use Rattle.go_tree.specs.declared.tree.Node.{Node}
use Rattle.go_tree.specs.declared.tree.NodeKind.{NodeKind}
use Rattle.go_tree.specs.Kinds.{is_function}
use Rattle.node_values.specs.Trees.{Holds, IsOfKind, InnermostOf}
use Rattle.scopes.specs.Regions.{form_of, is_param}
use Rattle.shadowed_results.specs.Kinds.{bare_parts, from_last, is_bare_at}

-- n is a parameter with names
abbrev pub is_param_at : List Node → ℕ → Bool
is_param_at nodes n = option_map_or (λ (node : Node). is_param (form_of node.kind)) (slice_get nodes n) false

abbrev pub any_param : List Node → List ℕ → Bool
any_param nodes [] = false
any_param nodes (n ∷ rest) = is_param_at nodes n || any_param nodes rest

-- one of the parts of n is such a parameter
abbrev pub lists_param : List Node → ℕ → Bool
lists_param nodes n = option_map_or (λ (node : Node). any_param nodes node.parts) (slice_get nodes n) false

-- the results of a function have names
abbrev pub names_results : List Node → NodeKind → List ℕ → Bool
names_results nodes kind parts = nat_lt (bare_parts kind) (length parts) && lists_param nodes (from_last parts 2)

abbrev pub names_results_at : List Node → ℕ → Bool
names_results_at nodes f = option_map_or (λ (node : Node). names_results nodes node.kind node.parts) (slice_get nodes f) false

-- m is the node b or stands in it
abbrev pub IsIn : List Node → ℕ → ℕ → Type 0
IsIn nodes b m = (m ≡ b) ⊎ Holds nodes b m

-- n is a `return` without values in the node m, and what functions there are in m round it are no others than f.
pub record ReturnsBare (nodes : List Node) (f m n : ℕ) : Type 0 where
  pub bare : is_bare_at nodes n ≡ true
  pub within : IsIn nodes m n
  pub own : (g : ℕ) → IsOfKind is_function nodes g → IsIn nodes m g → Holds nodes g n → g ≡ f

-- The results of the function f have names, and n is a `return` without values of it.
pub record MayShadow (nodes : List Node) (f n : ℕ) : Type 0 where
  pub named : names_results_at nodes f ≡ true
  pub function : InnermostOf is_function nodes n f
  pub bare : is_bare_at nodes n ≡ true

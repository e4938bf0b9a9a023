-- Which nodes are names of results: what functions hand down to the part that lists their results.
use Rattle.std.specs.Prelude.{ℕ, ◌==◌, ◌&&◌, nat_lt, cond, if◌then◌else◌, Bool, true, false, List, length, slice_get}
use Rattle.std.specs.Option.{option_map_or}
use Rattle.go_tree.specs.declared.tree.Node.{Node}
use Rattle.go_tree.specs.declared.tree.NodeKind.{NodeKind}
use Rattle.go_tree.specs.Kinds.{is_function}
use Rattle.node_values.specs.Handed.{IsHandedDown}
use Rattle.scopes.specs.Regions.{form_of, is_names, is_params, is_param}
use Rattle.shadowed_results.specs.declared.results.Stage.{Stage}
use Rattle.shadowed_results.specs.declared.results.Stage.TheVariants as s
use Rattle.shadowed_results.specs.Kinds.{bare_parts, from_last}

-- the part of a function that lists its results, where it has results and a body
abbrev pub lists_results : NodeKind → List ℕ → ℕ → Bool
lists_results kind parts n = nat_lt (bare_parts kind) (length parts) && (from_last parts 2 == n)

abbrev pub is_first : List ℕ → ℕ → Bool
is_first parts n = option_map_or (λ (part : ℕ). part == n) (slice_get parts 0) false

abbrev pub stage_if : Bool → Stage → Stage
stage_if test stage = cond test stage s.Outside

-- In a list of results stand parameters, which begin with their names.
abbrev pub passed : Stage → NodeKind → List ℕ → ℕ → Stage
passed s.Outside _ _ _ = s.Outside
passed s.List kind parts n = stage_if (is_params (form_of kind)) s.Parameter
passed s.Parameter kind parts n = stage_if (is_param (form_of kind) && is_first parts n) s.Names
passed s.Names kind parts n = stage_if (is_names (form_of kind)) s.Names

abbrev pub stage_by : NodeKind → List ℕ → ℕ → Stage → Stage
stage_by kind parts n own =
    if is_function kind then stage_if (lists_results kind parts n) s.List else passed own kind parts n

abbrev pub stage_rule : ℕ → Node → ℕ → Stage → Stage
stage_rule p node n own = stage_by node.kind node.parts n own

abbrev pub AreStages : List Node → List Stage → Type 0
AreStages nodes stages = IsHandedDown stage_rule s.Outside nodes stages

-- a name of results, or a list of such names
abbrev pub is_named : Stage → Bool
is_named s.Outside = false
is_named s.List = false
is_named s.Parameter = false
is_named s.Names = true

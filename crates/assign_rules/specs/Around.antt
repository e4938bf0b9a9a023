-- What is around a node: parentheses, the function, the clause of a type switch (Go 1.17, "Blocks", "Function declarations", "Type switches").
use Rattle.std.specs.Prelude.{ℕ, zero, suc, ◌==◌, ◌&&◌, Bool, true, false, if◌then◌else◌, List, Option, Some, None, option_and_then}
use Rattle.std.specs.Option.{option_map_or}
use Rattle.go_tree.specs.declared.bindings.Object.{Object}
use Rattle.go_tree.specs.declared.bindings.Object.TheVariants as o
use Rattle.go_tree.specs.declared.tree.Node.{Node}
use Rattle.go_tree.specs.declared.tree.NodeRef.{NodeRef}
use Rattle.go_tree.specs.Kinds.{is_function}
use Rattle.object_order.specs.Spots.{place}
use Rattle.package_objects.specs.Declares.{kind_at}
use Rattle.unit_read.specs.declared.place.Place.{Place}
use Rattle.unit_read.specs.Units.{Unit, nodes_at, name_at, place_at, object_at, is_blank}
use Rattle.variable_rules.specs.Forms.{bare}
use Rattle.assign_rules.specs.Kinds.{is_name, is_bind}
use Rattle.rule_words.specs.Nodes.{deepest, is_paren}

-- ---- blanks

abbrev pub is_blank_name : Unit → ℕ → List Node → ℕ → Bool
is_blank_name u file nodes n = is_name (kind_at nodes n) && is_blank (name_at u (place file n))

-- `_`, parentheses aside
abbrev pub is_ignored : Unit → ℕ → List Node → ℕ → Bool
is_ignored u file nodes n = is_blank_name u file nodes (bare nodes n)

-- ---- parentheses around a node

abbrev pub outside_by : Unit → ℕ → ℕ → Place → ℕ
outside_by u file n p = if is_paren (kind_at (nodes_at u file) p.around) then p.around else n

abbrev pub outside : Unit → ℕ → ℕ → ℕ
outside u file n = option_map_or (outside_by u file n) (place_at u (place file n)) n

-- the outermost of so many at most
abbrev pub wrapped : Unit → ℕ → ℕ → ℕ → ℕ
wrapped u file zero n = n
wrapped u file (suc i) n = outside u file (wrapped u file i n)

abbrev pub outermost : Unit → ℕ → ℕ → ℕ
outermost u file n = wrapped u file deepest n

-- ---- functions

-- the nearest node around that passes a test, in so many steps at most
abbrev pub nearest_by : (ℕ → Option ℕ) → (ℕ → Bool) → Place → Option ℕ
nearest_by further passes p = if passes p.around then Some p.around else further p.around

abbrev pub nearest : Unit → ℕ → (ℕ → Bool) → ℕ → ℕ → Option ℕ
nearest u file passes zero n = None
nearest u file passes (suc i) n = option_and_then (nearest_by (nearest u file passes i) passes) (place_at u (place file n))

abbrev pub is_function_at : Unit → ℕ → ℕ → Bool
is_function_at u file n = is_function (kind_at (nodes_at u file) n)

-- the function in whose body a node stands
unfoldable pub function_of : Unit → ℕ → ℕ → Option ℕ
function_of u file n = nearest u file (is_function_at u file) deepest n

-- ---- clauses of type switches

-- the node that stands directly in another, around a node or itself, in so many steps at most
abbrev pub branch_by : (ℕ → Option ℕ) → ℕ → ℕ → Place → Option ℕ
branch_by further whole n p = if p.around == whole then Some n else further p.around

abbrev pub branch : Unit → ℕ → ℕ → ℕ → ℕ → Option ℕ
branch u file whole zero n = None
branch u file whole (suc i) n = option_and_then (branch_by (branch u file whole i) whole n) (place_at u (place file n))

-- what the name of a type switch stands in
abbrev pub around_of : Unit → NodeRef → Option ℕ
around_of u at = option_and_then (λ (p : Place). Some p.around) (place_at u at)

abbrev pub bound_in : Unit → NodeRef → ℕ → Option ℕ
bound_in u name bind = if is_bind (kind_at (nodes_at u name.file) bind) then around_of u (place name.file bind) else None

-- the type switch that declares the name
abbrev pub switch_of : Unit → NodeRef → Option ℕ
switch_of u name = option_and_then (bound_in u name) (around_of u name)

abbrev pub clause_in : Unit → NodeRef → ℕ → Option ℕ
clause_in u at whole = branch u at.file whole deepest at.node

abbrev pub switched_by : Unit → NodeRef → Object → Option ℕ
switched_by u at (o.Local name) = option_and_then (clause_in u at) (switch_of u name)
switched_by u at (o.Universe i) = None
switched_by u at (o.Import other) = None
switched_by u at (o.Package name) = None

-- "the symbol is declared in each clause": the clause whose variable a use denotes, where it denotes the name of a type switch
unfoldable pub clause_of : Unit → NodeRef → Option ℕ
clause_of u at = option_and_then (switched_by u at) (object_at u at)

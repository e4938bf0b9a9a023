-- What names denote and declare in a file, by node.
use Rattle.std.specs.Prelude.{ℕ, ◌<◌, ◌≡◌, ◌==◌, ◌&&◌, ◌||◌, not, if◌then◌else◌, Bool, true, false, List, length, Option, Some, None, get_or, slice_get, option_and_then}
use Rattle.std.specs.Option.{option_map_or}
use Rattle.go_tree.specs.declared.tree.Node.{Node}
use Rattle.go_tree.specs.declared.tree.NodeKind.{NodeKind}
use Rattle.go_tree.specs.declared.tree.NodeKind.TheVariants as k
use Rattle.go_tree.specs.declared.tree.NodeRef.{NodeRef}
use Rattle.go_tree.specs.declared.bindings.Object.{Object}
use Rattle.go_tree.specs.declared.bindings.Object.TheVariants as o
use Rattle.go_tree.specs.Kinds.{is_function}
use Rattle.object_order.specs.Spots.{place}
use Rattle.node_values.specs.Flagged.{AreFlagged}
use Rattle.node_values.specs.Handed.{IsHandedDown}
use Rattle.unit_read.specs.Units.{Unit, nodes_at, node_at, object_at, place_at, name_at, is_blank}
use Rattle.unit_read.specs.declared.place.Place.{Place}

-- each number below a count has its value
pub record AreValues {A : Type 0} (value : ℕ → A) (top : A) (count : ℕ) (found : List A) : Type 0 where
  pub size : length found ≡ count
  pub each : (n : ℕ) → n < count → get_or found n top ≡ value n

-- ---- what uses denote

-- the declaration of a name in the same file
abbrev pub local_in : ℕ → Option NodeRef → Option ℕ
local_in f (Some at) = if at.file == f then Some at.node else None
local_in f None = None

-- what a node means is given, as the name that it reads
abbrev pub meant_at : (NodeRef → Option NodeRef) → ℕ → ℕ → Option ℕ
meant_at meant f n = local_in f (meant (place f n))

-- ---- calls of `panic`

-- the place of `panic` among the predeclared names
abbrev pub is_panic : Option Object → Bool
is_panic (Some (o.Universe k)) = k == 25
is_panic (Some (o.Local at)) = false
is_panic (Some (o.Import at)) = false
is_panic (Some (o.Package at)) = false
is_panic None = false

abbrev pub is_paren : NodeKind → Bool
is_paren k.Paren = true
is_paren _ = false

abbrev pub is_call : NodeKind → Bool
is_call k.Call = true
is_call _ = false

abbrev pub is_first : List ℕ → ℕ → Bool
is_first parts n = option_map_or (λ (part : ℕ). part == n) (slice_get parts 0) false

-- the call of which a node is the function, parentheses aside
abbrev pub callee_rule : ℕ → Node → ℕ → Option ℕ → Option ℕ
callee_rule p node n own =
    if is_call node.kind then (if is_first node.parts n then Some p else None)
    else (if is_paren node.kind then own else None)

abbrev pub AreCallees : List Node → List (Option ℕ) → Type 0
AreCallees nodes found = IsHandedDown callee_rule None nodes found

-- n is one of so many nodes, and denotes `panic`
abbrev pub DenotesPanic : Unit → ℕ → ℕ → ℕ → Type 0
DenotesPanic u f count n = (n < count) × (is_panic (object_at u (place f n)) ≡ true)

-- n is the function of the call t, and denotes `panic`
abbrev pub Panics : Unit → ℕ → List (Option ℕ) → ℕ → ℕ → Type 0
Panics u f found n t = (is_panic (object_at u (place f n)) ≡ true) × (get_or found n None ≡ Some t)

-- the calls of `panic`
pub record ArePanics (u : Unit) (f : ℕ) (nodes : List Node) (flags : List Bool) : Type 0 where
  pub found : List (Option ℕ)
  pub callees : AreCallees nodes found
  pub flagged : AreFlagged (Panics u f found) (length nodes) (length nodes) flags

-- ---- variables

-- what declares variables by the names of its first part
abbrev pub is_declaring : NodeKind → Bool
is_declaring k.VarValues = true
is_declaring k.VarTyped = true
is_declaring k.VarTypedValues = true
is_declaring k.Define = true
is_declaring k.ForRangeDefine = true
is_declaring k.Bind = true
is_declaring _ = false

abbrev pub kind_declares : Option Node → Bool
kind_declares o = option_map_or (λ (node : Node). is_declaring node.kind) o false

abbrev pub declared_by : Unit → ℕ → Place → Bool
declared_by u f p = kind_declares (node_at u (place f p.around)) && (p.slot == 0)

-- a name that stands where a variable is declared
abbrev pub stands_declared : Unit → ℕ → ℕ → Bool
stands_declared u f n = option_map_or (declared_by u f) (place_at u (place f n)) false

abbrev pub is_none : Option Object → Bool
is_none None = true
is_none (Some object) = false

-- The name declares: it is no use and not blank. One that its block has already declares a variable all the same, which no use denotes.
abbrev pub is_new : Unit → ℕ → ℕ → Bool
is_new u f n = is_none (object_at u (place f n)) && not (is_blank (name_at u (place f n)))

-- what stands within a function
abbrev pub within_rule : ℕ → Node → ℕ → Bool → Bool
within_rule p node n own = is_function node.kind || own

abbrev pub AreWithin : List Node → List Bool → Type 0
AreWithin nodes found = IsHandedDown within_rule false nodes found

-- a variable of a function
abbrev pub is_variable : Unit → ℕ → List Bool → ℕ → Bool
is_variable u f inside n = get_or inside n false && (stands_declared u f n && is_new u f n)

pub record AreVariables (u : Unit) (f : ℕ) (nodes : List Node) (flags : List Bool) : Type 0 where
  pub inside : List Bool
  pub within : AreWithin nodes inside
  pub values : AreValues (is_variable u f inside) false (length nodes) flags

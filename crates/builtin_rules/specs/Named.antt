-- Which built-in function a call names, and how many arguments it has (Go 1.17, "Calls", "Built-in functions").
use Rattle.std.specs.Prelude.{ℕ, zero, suc, ◌-◌, Bool, true, false, if◌then◌else◌, List, length, Option, None, option_and_then, slice_get}
use Rattle.std.specs.Option.{option_map_or}
use Rattle.go_tree.specs.declared.bindings.Object.{Object}
use Rattle.go_tree.specs.declared.bindings.Object.TheVariants as o
use Rattle.go_tree.specs.declared.tree.Node.{Node}
use Rattle.go_tree.specs.declared.tree.NodeKind.{NodeKind}
use Rattle.go_tree.specs.declared.tree.NodeKind.TheVariants as k
use Rattle.object_order.specs.Spots.{place}
use Rattle.package_objects.specs.Declares.{part}
use Rattle.unit_read.specs.Units.{Unit, nodes_at, object_at}
use Rattle.rule_words.specs.Parts.{Part}
use Rattle.rule_words.specs.Nodes.{is_paren}
use Rattle.builtin_rules.specs.declared.lines.Builtin.{Builtin}
use Rattle.builtin_rules.specs.Builtins.{builtin_of}

-- ---- parentheses aside

-- what stands directly between parentheses
abbrev pub between : Node → Option ℕ
between node = if is_paren node.kind then part node 0 else None

abbrev pub between_at : List Node → ℕ → Option ℕ
between_at nodes n = option_and_then between (slice_get nodes n)

abbrev pub bare_by : (ℕ → ℕ) → ℕ → Option ℕ → ℕ
bare_by inner n o = option_map_or inner o n

-- the node, with at most so many parentheses round it taken off
abbrev pub bare : List Node → ℕ → ℕ → ℕ
bare nodes zero n = n
bare nodes (suc most) n = bare_by (bare nodes most) n (between_at nodes n)

-- what stands between parentheses, however many
unfoldable pub inner : List Node → ℕ → ℕ
inner nodes n = bare nodes (length nodes) n

-- ---- calls

abbrev pub is_call : NodeKind → Bool
is_call k.Call = true
is_call k.CallSpread = true
is_call _ = false

-- the last argument has `...` behind it
abbrev pub is_spread : NodeKind → Bool
is_spread k.CallSpread = true
is_spread _ = false

-- a call's parts are what it calls and its arguments
abbrev pub argument_count : List Part → ℕ
argument_count ps = length ps - 1

-- ---- built-in functions

abbrev pub builtin_object : Object → Option Builtin
builtin_object (o.Universe i) = builtin_of i
builtin_object (o.Import at) = None
builtin_object (o.Local name) = None
builtin_object (o.Package name) = None

abbrev pub builtin_named : Unit → ℕ → ℕ → Option Builtin
builtin_named u file n = option_and_then builtin_object (object_at u (place file (inner (nodes_at u file) n)))

-- the built-in function that a call's first part names
unfoldable pub builtin_in : Unit → ℕ → Node → Option Builtin
builtin_in u file node = option_and_then (builtin_named u file) (part node 0)

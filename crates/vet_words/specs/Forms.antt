-- Forms of nodes.
use Rattle.std.specs.Prelude.{ℕ, zero, suc, Bool, true, false, if◌then◌else◌, List, length, Option, None, slice_get, option_and_then}
use Rattle.std.specs.Option.{option_map_or}
use Rattle.go_tree.specs.declared.tree.Node.{Node}
use Rattle.go_tree.specs.declared.tree.NodeKind.{NodeKind}
use Rattle.go_tree.specs.declared.tree.NodeKind.TheVariants as k
use Rattle.package_objects.specs.Declares.{part}

-- ---- kinds

abbrev pub is_paren : NodeKind → Bool
is_paren k.Paren = true
is_paren _ = false

-- a call, with `...` or without
abbrev pub is_call : NodeKind → Bool
is_call k.Call = true
is_call k.CallSpread = true
is_call _ = false

-- a call without `...`, as each conversion is
abbrev pub is_plain_call : NodeKind → Bool
is_plain_call k.Call = true
is_plain_call _ = false

abbrev pub is_name : NodeKind → Bool
is_name k.Name = true
is_name _ = false

abbrev pub is_selector : NodeKind → Bool
is_selector k.Selector = true
is_selector _ = false

abbrev pub is_unary : NodeKind → Bool
is_unary k.Unary = true
is_unary _ = false

-- ---- parentheses dropped

-- what stands directly between parentheses
abbrev pub between : Node → Option ℕ
between node = if is_paren node.kind then part node 0 else None

abbrev pub between_at : List Node → ℕ → Option ℕ
between_at nodes n = option_and_then between (slice_get nodes n)

abbrev pub bare_by : (ℕ → ℕ) → ℕ → Option ℕ → ℕ
bare_by further n o = option_map_or further o n

-- the node, with at most so many parentheses round it dropped
abbrev pub bare_from : List Node → ℕ → ℕ → ℕ
bare_from nodes zero n = n
bare_from nodes (suc most) n = bare_by (bare_from nodes most) n (between_at nodes n)

-- the node, with all parentheses round it dropped
abbrev pub bare : List Node → ℕ → ℕ
bare nodes n = bare_from nodes (length nodes) n

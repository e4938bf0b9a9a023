-- Constant specifications, and what each declares (Go 1.17, "Constant declarations", "Iota").
use Rattle.std.specs.Prelude.{◌≡◌, ℕ, suc, ◌<◌, nat_le, if◌then◌else◌, Bool, true, false, List, [], ◌∷◌, length, Option, Some, None, slice_get, option_and_then, option_map}
use Rattle.std.specs.Option.{option_map_or}
use Rattle.go_tree.specs.declared.tree.Node.{Node}
use Rattle.go_tree.specs.declared.tree.NodeKind.{NodeKind}
use Rattle.go_tree.specs.declared.tree.NodeKind.TheVariants as k
use Rattle.object_order.specs.declared.spot.Root.{Root}
use Rattle.package_objects.specs.Declares.{gather, items, part, kind_at, source_after, list_of}
use Rattle.const_tree.specs.declared.constant.Spec.{Spec}

-- ---- specifications

-- a specification of a declaration: its node, its number in the declaration, and that whose type and values count for it
abbrev pub spec_for : Option ℕ → ℕ → Option ℕ → List Spec
spec_for None i source = []
spec_for (Some n) i source = record { node = n; iota = i; source = source } ∷ []

abbrev pub nth_spec : List Node → Node → ℕ → List Spec
nth_spec nodes node i = spec_for (slice_get node.parts i) i (source_after nodes node.parts (suc i))

abbrev pub is_declaration : NodeKind → Bool
is_declaration k.Const = true
is_declaration k.ConstGroup = true
is_declaration _ = false

abbrev pub specs_of : List Node → Node → List Spec
specs_of nodes node = if is_declaration node.kind then gather (nth_spec nodes node) (length node.parts) else []

abbrev pub specs_at : List Node → ℕ → List Spec
specs_at nodes n = option_map_or (specs_of nodes) (slice_get nodes n) []

-- the specifications of a file, in order
abbrev pub specs_in : List Node → List Spec
specs_in nodes = gather (specs_at nodes) (length nodes)

-- ---- what a specification declares

-- the node of the type, and those of the values, that count for a specification
abbrev pub typing_of : List Node → Spec → Option ℕ
typing_of nodes spec = option_map (λ (r : Root). r.node) (list_of nodes spec.source).typing

abbrev pub values_of : List Node → Spec → List ℕ
values_of nodes spec = items nodes (list_of nodes spec.source).values

abbrev pub names_of : List Node → Spec → List ℕ
names_of nodes spec = items nodes (option_and_then (λ (node : Node). part node 0) (slice_get nodes spec.node))

-- the specification has no values, and repeats those of its source
abbrev pub is_bare : NodeKind → Bool
is_bare k.ConstNames = true
is_bare _ = false

abbrev pub is_repeated : List Node → Spec → Bool
is_repeated nodes spec = is_bare (kind_at nodes spec.node)

-- ---- nodes and specifications

-- A node belongs to the first specification whose node isn't before it: a node comes directly after those of its parts.
abbrev pub first_from : ℕ → List Spec → Option Spec
first_from n [] = None
first_from n (s ∷ specs) = if nat_le n s.node then Some s else first_from n specs

-- the specifications in front of a place come before the node
abbrev pub AreBefore : List Spec → ℕ → ℕ → Type 0
AreBefore specs at n = (j : ℕ) → j < at → (s : Spec) → slice_get specs j ≡ Some s → s.node < n

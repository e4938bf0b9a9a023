-- What statements call (Go 1.17, "Calls", "Expression statements", "Handling panics").
use Rattle.std.specs.Prelude.{◌≡◌, ◌⊎◌, ℕ, ◌&&◌, Bool, true, false, if◌then◌else◌, List, codes, bytes_eq, Option, Some, None, slice_get, option_map, option_and_then}
use Rattle.std.specs.Option.{option_map_or}
use Rattle.go_tree.specs.declared.bindings.Object.{Object}
use Rattle.go_tree.specs.declared.bindings.Object.TheVariants as o
use Rattle.go_tree.specs.declared.tree.Node.{Node}
use Rattle.go_tree.specs.declared.tree.NodeRef.{NodeRef}
use Rattle.object_order.specs.Spots.{place}
use Rattle.package_objects.specs.Declares.{part}
use Rattle.typed_marks.specs.declared.item.Item.{Item}
use Rattle.typed_marks.specs.Meanings.{Meaning}
use Rattle.unit_read.specs.Units.{Unit, nodes_at, name_at, object_at}
use Rattle.least.specs.Tables.{Member, member}
use Rattle.never_returns.specs.Admits.{Callee, Other, Panic, Named}
use Rattle.vet_words.specs.Forms.{is_call, bare}
use Rattle.member_names.specs.Named.{IsNamed}
use Rattle.own_functions.specs.Functions.{Pair}

-- ---- calls

abbrev pub if_call : Node → Option Node
if_call node = if is_call node.kind then Some node else None

-- the call that a node is, parentheses dropped
abbrev pub call_of : List Node → ℕ → Option Node
call_of nodes n = option_and_then if_call (slice_get nodes (bare nodes n))

abbrev pub callee_part : Node → Option ℕ
callee_part call = part call 0

-- what is called, parentheses dropped
abbrev pub callee_of : List Node → ℕ → Option ℕ
callee_of nodes n = option_map (bare nodes) (option_and_then callee_part (call_of nodes n))

-- ---- `panic`

abbrev pub is_universe : Object → Bool
is_universe (o.Universe i) = true
is_universe (o.Import at) = false
is_universe (o.Local at) = false
is_universe (o.Package at) = false

-- the predeclared `panic`
abbrev pub is_panic : Unit → ℕ → ℕ → Bool
is_panic u f n = option_map_or is_universe (object_at u (place f n)) false && bytes_eq (name_at u (place f n)) (codes "panic")

-- ---- all of them

abbrev pub member_of : Pair → Member
member_of x = member x.0 x.1 0

-- a declared function or method, or nothing that matters
abbrev pub IsMemberCallee : Unit → (Item → Meaning) → ℕ → ℕ → Callee → Type 0
IsMemberCallee u marks f n c = ((x : Pair) × IsNamed u marks f n x × (c ≡ Named (member_of x))) ⊎ (((x : Pair) → IsNamed u marks f n x → ⊥) × (c ≡ Other))

abbrev pub IsCalleeIf : Unit → (Item → Meaning) → ℕ → ℕ → Bool → Callee → Type 0
IsCalleeIf u marks f n true c = c ≡ Panic
IsCalleeIf u marks f n false c = IsMemberCallee u marks f n c

abbrev pub IsCalleeOf : Unit → (Item → Meaning) → ℕ → Option ℕ → Callee → Type 0
IsCalleeOf u marks f (Some n) c = IsCalleeIf u marks f n (is_panic u f n) c
IsCalleeOf u marks f None c = c ≡ Other

-- What the node calls, if it is a call: the predeclared `panic`, or a declared function or method by name.
abbrev pub IsCallee : Unit → (Item → Meaning) → NodeRef → Callee → Type 0
IsCallee u marks at c = IsCalleeOf u marks at.file (callee_of (nodes_at u at.file) at.node) c

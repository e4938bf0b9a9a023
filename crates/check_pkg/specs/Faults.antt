-- Faults, where they stand, and their order.
use Rattle.std.specs.Prelude.{◌≡◌, ℕ, suc, ◌+◌, ◌<◌, ◌⊎◌, Bool, true, false, nat_le, ◌==◌, if◌then◌else◌, List, [], ◌∷◌, Option, Some, None, slice_get}
use Rattle.std.specs.Option.{option_map_or}
use Rattle.gv_base.specs.declared.place.Place.{Place}
use Rattle.go_tree.specs.Head.{head_of}
use Rattle.go_tree.specs.declared.token.Token.{Token}
use Rattle.go_tree.specs.declared.tree.FileTree.{FileTree}
use Rattle.go_tree.specs.declared.tree.Node.{Node}
use Rattle.go_tree.specs.declared.tree.NodeKind.{NodeKind}
use Rattle.go_tree.specs.declared.tree.NodeKind.TheVariants as k
use Rattle.go_tree.specs.declared.tree.NodeRef.{NodeRef}
use Rattle.object_order.specs.Spots.{place}
use Rattle.package_objects.specs.Declares.{part}
use Rattle.const_tree.specs.declared.constant.Spec.{Spec}
use Rattle.const_tree.specs.Constants.{names_of, values_of}
use Rattle.typed_tree.specs.declared.rule.TheConstants.{BAD_RECEIVER, DUPLICATE_MEMBER}
use Rattle.typed_tree.specs.declared.rule.Limit.{Limit}
use Rattle.typed_tree.specs.declared.rule.Limit.TheVariants as l
use Rattle.typed_marks.specs.Meanings.{Meaning, Right, Wrong, Beyond, Quiet, Wishes, Declares}
use Rattle.unit_read.specs.declared.passage.Passage.{Passage}
use Rattle.unit_read.specs.Units.{Unit, text_in, tree_at, nodes_at, node_at, token_at}
use Rattle.check_pkg.specs.declared.refusal.Fault.{Fault}
use Rattle.check_pkg.specs.declared.refusal.Fault.TheVariants.{Rule as RuleFault, Limit as LimitFault}
use Rattle.check_pkg.specs.declared.refusal.Refusal.{Refusal}

-- ---- faults

abbrev pub fault_in : Meaning → Option Fault
fault_in (Right x) = None
fault_in (Wrong rule) = Some (RuleFault rule)
fault_in (Beyond limit) = Some (LimitFault limit)
fault_in Quiet = None
fault_in (Wishes demand wish) = None
fault_in (Declares d) = None

abbrev pub limit_number : Limit → ℕ
limit_number l.Float = 0
limit_number l.Complex = 1
limit_number l.Wide = 2
limit_number l.LongText = 3
limit_number l.WideType = 4
limit_number l.Unsafe = 5
limit_number l.Cgo = 6
limit_number l.DotImport = 7
limit_number l.BuildConstraint = 8

-- rules by their numbers, and limits after all rules
abbrev pub fault_number : Fault → ℕ
fault_number (RuleFault rule) = rule.0
fault_number (LimitFault limit) = 256 + limit_number limit

-- ---- places

-- where a token begins
abbrev pub start_of : Unit → ℕ → ℕ → ℕ
start_of u f i = option_map_or (λ (token : Token). token.start) (token_at u f i) 0

abbrev pub spot : ℕ → ℕ → Place
spot file offset = record { file = file; offset = offset }

-- the first token of a node
abbrev pub offset_of : Unit → NodeRef → ℕ
offset_of u at = option_map_or (λ (node : Node). start_of u at.file node.first) (node_at u at) 0

abbrev pub place_of : Unit → NodeRef → Place
place_of u at = spot at.file (offset_of u at)

-- the first build constraint of a file
abbrev pub constraint_in : List ℕ → FileTree → ℕ
constraint_in text tree = option_map_or (λ (n : ℕ). n) (head_of tree text).constraint 0

abbrev pub constraint_offset : Unit → ℕ → ℕ
constraint_offset u f = option_map_or (constraint_in (text_in u f)) (tree_at u f) 0

abbrev pub is_constraint_limit : Limit → Bool
is_constraint_limit l.BuildConstraint = true
is_constraint_limit _ = false

abbrev pub is_constraint : Fault → Bool
is_constraint (LimitFault limit) = is_constraint_limit limit
is_constraint (RuleFault rule) = false

-- ---- what bears a fault

-- the type of a parameter with a name, or what stands for one without
abbrev pub entry_type : NodeKind → Node → ℕ → ℕ
entry_type k.Param node n = option_map_or (λ (t : ℕ). t) (part node 1) n
entry_type k.SpreadParam node n = option_map_or (λ (t : ℕ). t) (part node 1) n
entry_type _ node n = n

abbrev pub type_in : List Node → ℕ → ℕ
type_in nodes n = option_map_or (λ (node : Node). entry_type node.kind node n) (slice_get nodes n) n

-- of a receiver's list the type of its first parameter, or the list where it has none
abbrev pub first_type : List Node → Node → ℕ → ℕ
first_type nodes node n = option_map_or (type_in nodes) (part node 0) n

-- of an embedded pointer the name behind the `*`
abbrev pub embedded_name : NodeKind → Node → ℕ → ℕ
embedded_name k.EmbeddedPointer node n = option_map_or (λ (t : ℕ). t) (part node 0) n
embedded_name _ node n = n

-- E16 is borne by the type of a receiver, and E14 by the name of what is embedded
abbrev pub bearer_by : List Node → Node → ℕ → Fault → ℕ
bearer_by nodes node n (RuleFault rule) =
    if rule.0 == BAD_RECEIVER.0 then first_type nodes node n else (if rule.0 == DUPLICATE_MEMBER.0 then embedded_name node.kind node n else n)
bearer_by nodes node n (LimitFault limit) = n

abbrev pub bearer : Unit → ℕ → ℕ → Fault → ℕ
bearer u f n fault = option_map_or (λ (node : Node). bearer_by (nodes_at u f) node n fault) (slice_get (nodes_at u f) n) n

-- the first token of what bears the fault, but for a build constraint, which has a place of its own
abbrev pub written_offset : Unit → NodeRef → Fault → ℕ
written_offset u at fault = if is_constraint fault then constraint_offset u at.file else offset_of u (place at.file (bearer u at.file at.node fault))

-- What is copied has the place of the specification's name beside its value, or of its first name where there is none.
abbrev pub name_beside : List ℕ → ℕ → ℕ
name_beside names i = option_map_or (λ (n : ℕ). n) (slice_get names i) (option_map_or (λ (n : ℕ). n) (slice_get names 0) 0)

-- the value in which a node stands: the first that isn't before it, since the parts of a node come before it
abbrev pub value_before : List ℕ → ℕ → ℕ
value_before [] n = 0
value_before (v ∷ values) n = if nat_le n v then 0 else suc (value_before values n)

abbrev pub value_from : Unit → ℕ → ℕ → Spec → ℕ
value_from u f n spec = value_before (values_of (nodes_at u f) spec) n

-- the value in which a node of a passage stands
abbrev pub value_in : Unit → Passage → ℕ → ℕ
value_in u p n = option_map_or (value_from u p.file n) p.spec 0

-- the name beside a value of a specification
abbrev pub beside : Unit → ℕ → ℕ → Spec → NodeRef
beside u f value spec = place f (name_beside (names_of (nodes_at u f) spec) value)

abbrev pub copied_offset : Unit → ℕ → ℕ → Spec → ℕ
copied_offset u f value spec = offset_of u (beside u f value spec)

-- where the fault of a node stands in its file: one in a repeated list stands at the name beside its value
abbrev pub fault_offset : Unit → Passage → ℕ → ℕ → Fault → ℕ
fault_offset u p n value fault = option_map_or (copied_offset u p.file value) p.spec (written_offset u (place p.file n) fault)

-- where the fault of a node of a passage stands
abbrev pub fault_place : Unit → Passage → ℕ → Fault → Place
fault_place u p n fault = spot p.file (fault_offset u p n (value_in u p n) fault)

-- ---- the order

-- by file, then by offset, then by fault
abbrev pub Precedes : Refusal → Refusal → Type 0
Precedes a b =
    (a.place.file < b.place.file)
    ⊎ ((a.place.file ≡ b.place.file)
    × ((a.place.offset < b.place.offset)
    ⊎ ((a.place.offset ≡ b.place.offset) × (fault_number a.fault < fault_number b.fault))))

-- each precedes the next, so that each stands once
abbrev pub IsOrdered : List Refusal → Type 0
IsOrdered list = (k : ℕ) (a b : Refusal) → slice_get list k ≡ Some a → slice_get list (k + 1) ≡ Some b → Precedes a b

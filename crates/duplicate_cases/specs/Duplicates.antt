-- E81, told once all is marked: a constant or a type that stands twice in the clauses of a switch (Go 1.17, "Expression switches": "duplicate constant case
-- expressions"; "Type switches": "the types listed in the cases of a type switch must all be different").
use Rattle.std.specs.Prelude.{◌≡◌, ℕ, zero, suc, ◌||◌, ◌&&◌, Bool, true, false, if◌then◌else◌, List, [], length, Option, Some, slice_get}
use Rattle.std.specs.Option.{option_map_or}
use Rattle.std.specs.Ordering.{int_eq}
use Rattle.std.specs.Str.{bytes_eq}
use Rattle.gv_base.specs.declared.constant.Const.{Const}
use Rattle.gv_base.specs.declared.constant.Const.TheVariants as const
use Rattle.go_tree.specs.declared.tree.Node.{Node}
use Rattle.go_tree.specs.declared.tree.NodeKind.{NodeKind}
use Rattle.go_tree.specs.declared.tree.NodeKind.TheVariants as k
use Rattle.go_tree.specs.declared.tree.FileTree.{FileTree}
use Rattle.go_tree.specs.declared.tree.NodeRef.{NodeRef}
use Rattle.package_objects.specs.Declares.{gather, items, part}
use Rattle.same_types.specs.Same.{same_type}
use Rattle.typed_marks.specs.declared.item.Item.{Item}
use Rattle.typed_marks.specs.declared.item.Stage.TheVariants as s
use Rattle.typed_marks.specs.Meanings.{Known, Meaning}
use Rattle.unit_read.specs.Units.{Unit, tree_at}
use Rattle.rule_words.specs.Asking.{item}
use Rattle.rule_words.specs.Good.{known_told}
use Rattle.typed_tree.specs.Places.{is_nil_mode, is_type}

-- ---- words

abbrev pub is_type_list : NodeKind → Bool
is_type_list k.TypeList = true
is_type_list _ = false

abbrev pub is_switch : NodeKind → Bool
is_switch k.Switch = true
is_switch k.TypeSwitch = true
is_switch _ = false

abbrev pub is_type_switch : NodeKind → Bool
is_type_switch k.TypeSwitch = true
is_type_switch _ = false

-- ---- what the clauses of a switch list, in the order of the text

abbrev pub listed_types : List Node → ℕ → Node → List ℕ
listed_types nodes n node = if is_type_list node.kind then node.parts else items nodes (Some n)

abbrev pub types_at : List Node → ℕ → List ℕ
types_at nodes n = option_map_or (listed_types nodes n) (slice_get nodes n) []

abbrev pub listed_by : List Node → NodeKind → Node → List ℕ
listed_by nodes k.Case clause = items nodes (part clause 0)
listed_by nodes k.TypeCase clause = option_map_or (types_at nodes) (part clause 0) []
listed_by nodes _ clause = []

abbrev pub listed_in : List Node → ℕ → List ℕ
listed_in nodes n = option_map_or (λ (clause : Node). listed_by nodes clause.kind clause) (slice_get nodes n) []

abbrev pub nth_listed : List Node → Node → ℕ → List ℕ
nth_listed nodes switch i = option_map_or (listed_in nodes) (part switch i) []

abbrev pub listed : List Node → Node → List ℕ
listed nodes switch = gather (nth_listed nodes switch) (length switch.parts)

-- ---- the same

-- Integers and strings are looked at, no truths.
abbrev pub same_value : Const → Const → Bool
same_value (const.Int a) (const.Int b) = int_eq a b
same_value (const.Text a) (const.Text b) = bytes_eq a b
same_value _ _ = false

abbrev pub same_values : Option Const → Option Const → Bool
same_values (Some a) (Some b) = same_value a b
same_values _ _ = false

-- types, or nil twice
abbrev pub are_types : Known → Known → Bool
are_types x y = is_type x.mode && (is_type y.mode && same_type x.of y.of)

abbrev pub are_nil : Known → Known → Bool
are_nil x y = is_nil_mode x.mode && is_nil_mode y.mode

-- Constants of one final type; beside an interface each has its own.
abbrev pub are_constants : Known → Known → Bool
are_constants x y = same_type x.last y.last && same_values x.value y.value

abbrev pub are_same : Bool → Known → Known → Bool
are_same of_types x y = if of_types then are_types x y || are_nil x y else are_constants x y

-- over the marks of nodes in their places: what isn't good is the same as nothing
abbrev pub same_known : Bool → Option Known → Option Known → Bool
same_known of_types (Some x) (Some y) = are_same of_types x y
same_known of_types _ _ = false

abbrev pub same_marks : Bool → Meaning → Meaning → Bool
same_marks of_types a b = same_known of_types (known_told a) (known_told b)

-- ---- E81

abbrev pub is_same_at : Bool → (ℕ → Meaning) → List ℕ → ℕ → ℕ → Bool
is_same_at of_types placed list n j = option_map_or (λ m. same_marks of_types (placed m) (placed n)) (slice_get list j) false

-- one of the first so many is the same
abbrev pub is_among : Bool → (ℕ → Meaning) → List ℕ → ℕ → ℕ → Bool
is_among of_types placed list n zero = false
is_among of_types placed list n (suc j) = is_among of_types placed list n j || is_same_at of_types placed list n j

-- What stands at a place of the list stands before it too: E81 there.
abbrev pub is_duplicate : Bool → (ℕ → Meaning) → List ℕ → ℕ → Bool
is_duplicate of_types placed list i = option_map_or (λ n. is_among of_types placed list n i) (slice_get list i) false

-- ---- in a package

-- the mark of a node of a file in its place
abbrev pub placed_in : (Item → Meaning) → ℕ → ℕ → Meaning
placed_in marks file n = marks (item s.Placed file n)

-- the node is listed in a clause of a switch, and what it says is listed there before
pub record IsDuplicateCase (u : Unit) (marks : Item → Meaning) (at : NodeRef) : Type 0 where
  pub tree : FileTree
  pub n : ℕ
  pub switch : Node
  pub i : ℕ
  pub has_tree : tree_at u at.file ≡ Some tree
  pub has_node : slice_get tree.nodes n ≡ Some switch
  pub switches : is_switch switch.kind ≡ true
  pub listed_at : slice_get (listed tree.nodes switch) i ≡ Some at.node
  pub twice : is_duplicate (is_type_switch switch.kind) (placed_in marks at.file) (listed tree.nodes switch) i ≡ true

-- What is noted of the values and types of clauses, in code.
use Rattle.std.specs.Prelude.{ℕ, ◌≡◌, Bool, List, [], ◌∷◌, length, if◌then◌else◌, Option, Some, None, IfSome, option_map, option_and_then, slice_get}
use Rattle.std.specs.Option.{option_map_or}
use Rattle.std.specs.Str.{bytes_eq}
use Rattle.gv_base.specs.declared.constant.Const.{Const}
use Rattle.gv_base.specs.declared.constant.Const.TheVariants as const
use Rattle.go_tree.specs.declared.tree.FileTree.{FileTree}
use Rattle.go_tree.specs.declared.tree.Node.{Node}
use Rattle.go_tree.specs.declared.tree.NodeRef.{NodeRef}
use Rattle.object_order.specs.Spots.{place}
use Rattle.package_objects.specs.Declares.{gather}
use Rattle.typed_marks.specs.declared.item.Item.{Item}
use Rattle.typed_marks.specs.declared.item.Stage.TheVariants as st
use Rattle.typed_marks.specs.declared.mark.Facts.{Facts}
use Rattle.typed_marks.specs.declared.mark.Mark.{Mark}
use Rattle.typed_marks.specs.declared.mark.Mark.TheVariants as m
use Rattle.typed_marks.specs.declared.state.State.{State}
use Rattle.typed_marks.specs.Meanings.{Meaning, constant_at}
use Rattle.typed_marks.specs.States.{so_far}
use Rattle.rule_words.specs.Asking.{item}
use Rattle.rule_words.specs.Scenes.{said, IsMarkOf}
use Rattle.rule_words.specs.Again.{is_again, nth_of}
use Rattle.rule_words.specs.Met.{spelled_int}
use Rattle.typed_tree.specs.Places.{is_nil_mode, is_type}
use Rattle.duplicate_cases.specs.Duplicates.{is_switch, is_type_switch, listed, is_among, placed_in}

-- ---- what is noted

-- ---- marks, spelled

-- a constant with the number of its type: of which form, and the value; no truth
abbrev pub spelled_const : ℕ → Const → Option (List ℕ)
spelled_const of (const.Int z) = Some (of ∷ spelled_int z)
spelled_const of (const.Truth b) = None
spelled_const of (const.Text t) = Some (of ∷ 3 ∷ t)

abbrev pub spelled_value : State → Facts → Option (List ℕ)
spelled_value s x = option_and_then (spelled_const x.last.0) (constant_at s.constants.items x.value)

-- the number of a type; nothing for nil
abbrev pub spelled_type : Facts → Option (List ℕ)
spelled_type x = if is_type x.mode then Some (x.of.0 ∷ []) else (if is_nil_mode x.mode then Some [] else None)

abbrev pub spelled_facts : State → Bool → Facts → Option (List ℕ)
spelled_facts s of_types x = if of_types then spelled_type x else spelled_value s x

abbrev pub spelled_mark : State → Bool → Mark → Option (List ℕ)
spelled_mark s of_types (m.Good facts) = spelled_facts s of_types facts
spelled_mark s of_types (m.Bad rule) = None
spelled_mark s of_types (m.Outside limit) = None
spelled_mark s of_types m.Silent = None
spelled_mark s of_types (m.Wants demand want) = None
spelled_mark s of_types (m.Declared of) = None

abbrev pub spelled_at : State → Bool → List (Option Mark) → ℕ → Option (List ℕ)
spelled_at s of_types marks i = option_and_then (spelled_mark s of_types) (nth_of marks i)

-- ---- the marks of a list

-- the first few of a list have the marks that are known of them
pub record AreSeen (s : State) (file : ℕ) (list : List ℕ) (few : ℕ) (marks : List (Option Mark)) : Type 0 where
  pub size : length marks ≡ few
  pub each : (i n : ℕ) (o : Option Mark) → slice_get list i ≡ Some n → slice_get marks i ≡ Some o → option_map (said s) o ≡ so_far s (item st.Placed file n)
  pub over : (i : ℕ) (o : Option Mark) → slice_get marks i ≡ Some o → IfSome o (IsMarkOf s)

-- ---- what stands twice, as it is gathered

abbrev pub if_so : Bool → NodeRef → List NodeRef
if_so test at = if test then at ∷ [] else []

abbrev pub again_at : (ℕ → Option (List ℕ)) → ℕ → List ℕ → ℕ → List NodeRef
again_at spell file list i = option_map_or (λ n. if_so (is_again bytes_eq spell i) (place file n)) (slice_get list i) []

abbrev pub duplicate_at : Bool → (ℕ → Meaning) → ℕ → List ℕ → ℕ → List NodeRef
duplicate_at of_types placed file list i = option_map_or (λ n. if_so (is_among of_types placed list n i) (place file n)) (slice_get list i) []

abbrev pub duplicates_of : Bool → (ℕ → Meaning) → ℕ → List ℕ → List NodeRef
duplicates_of of_types placed file list = gather (duplicate_at of_types placed file list) (length list)

abbrev pub switch_duplicates : (Item → Meaning) → ℕ → List Node → Node → List NodeRef
switch_duplicates marks file nodes switch = duplicates_of (is_type_switch switch.kind) (placed_in marks file) file (listed nodes switch)

abbrev pub node_duplicates : (Item → Meaning) → ℕ → List Node → Node → List NodeRef
node_duplicates marks file nodes node = if is_switch node.kind then switch_duplicates marks file nodes node else []

abbrev pub nth_duplicates : (Item → Meaning) → ℕ → List Node → ℕ → List NodeRef
nth_duplicates marks file nodes n = option_map_or (node_duplicates marks file nodes) (slice_get nodes n) []

abbrev pub tree_duplicates : (Item → Meaning) → ℕ → FileTree → List NodeRef
tree_duplicates marks file tree = gather (nth_duplicates marks file tree.nodes) (length tree.nodes)

abbrev pub file_duplicates : List FileTree → (Item → Meaning) → ℕ → List NodeRef
file_duplicates trees marks file = option_map_or (tree_duplicates marks file) (slice_get trees file) []

abbrev pub all_duplicates : List FileTree → (Item → Meaning) → List NodeRef
all_duplicates trees marks = gather (file_duplicates trees marks) (length trees)

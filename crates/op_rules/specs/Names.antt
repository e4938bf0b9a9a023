-- Literals, names and qualified identifiers (Go 1.17, "Integer literals", "Operands", "Qualified identifiers", "Iota").
use Rattle.std.specs.Prelude.{ℕ, ◌==◌, nat_le, Bool, false, if◌then◌else◌, List, Option, Some, None, option_and_then}
use Rattle.std.specs.Option.{option_map_or}
use Rattle.gv_base.specs.declared.constant.Const.{Const}
use Rattle.go_tree.specs.declared.bindings.Object.{Object}
use Rattle.go_tree.specs.declared.bindings.Object.TheVariants as o
use Rattle.go_tree.specs.declared.tree.Node.{Node}
use Rattle.go_tree.specs.declared.tree.NodeRef.{NodeRef}
use Rattle.mark_walk.specs.Asks.{done, bind}
use Rattle.object_order.specs.Spots.{place}
use Rattle.package_objects.specs.Declares.{part}
use Rattle.type_model.specs.GoTypes.{GoType}
use Rattle.typed_tree.specs.declared.mark.Mode.{Mode}
use Rattle.typed_tree.specs.declared.place.Want.{Want as Demand}
use Rattle.typed_tree.specs.declared.rule.TheConstants.{UNDEFINED, NO_SUCH_FIELD_OR_METHOD}
use Rattle.typed_tree.specs.Meanings.{Meaning as TreeMeaning, Right as RightInTree, Wrong as WrongInTree, Beyond as BeyondInTree, Quiet as QuietInTree}
use Rattle.typed_tree.specs.Places.{blank_mark, use_mark, exported_mark, is_package}
use Rattle.typed_tree.specs.Universe.{predeclared_mark}
use Rattle.typed_marks.specs.declared.item.Stage.TheVariants as s
use Rattle.typed_marks.specs.Meanings.{Known, Wish, Meaning, Wrong, Beyond, Quiet}
use Rattle.const_tree.specs.declared.constant.Spec.{Spec}
use Rattle.unit_read.specs.declared.passage.Passage.{Passage}
use Rattle.unit_read.specs.Imports.{import_meaning, exported_of}
use Rattle.unit_read.specs.Units.{Unit, node_at, first_spelled, last_spelled, is_blank, object_at, spec_at, passage_at}
use Rattle.rule_words.specs.Answers.{constant}
use Rattle.rule_words.specs.Asking.{Rule, mark_ask}
use Rattle.rule_words.specs.Parts.{Part}
use Rattle.rule_words.specs.Words.{Wanted, need, last_of, operand}
use Rattle.op_rules.specs.Types.{is_basic}

-- ---- final types

-- what has a value is a constant
abbrev pub with_last : Mode → GoType → Option Const → Wish → Meaning
with_last mode of None wish = operand mode of None wish
with_last mode of (Some c) wish = constant of (last_of of wish) c

-- a mark whose final type isn't known yet
abbrev pub wished : Wish → TreeMeaning → Meaning
wished wish (RightInTree x) = with_last x.mode x.of x.value wish
wished wish (WrongInTree rule) = Wrong rule
wished wish (BeyondInTree limit) = Beyond limit
wished wish QuietInTree = Quiet

-- ---- `iota`

-- a node comes directly after those in it, and its first token isn't after theirs
abbrev pub begins : Unit → NodeRef → ℕ → Bool
begins u at first = option_map_or (λ (node : Node). nat_le first node.first) (node_at u at) false

-- the node is one of this specification
abbrev pub is_within_spec : Unit → NodeRef → Spec → Bool
is_within_spec u at spec = option_map_or (λ (whole : Node). begins u at whole.first) (node_at u (place at.file spec.node)) false

abbrev pub spec_number : Unit → NodeRef → Spec → Option ℕ
spec_number u at spec = if is_within_spec u at spec then Some spec.iota else None

abbrev pub written_iota : Unit → NodeRef → Option ℕ
written_iota u at = option_and_then (spec_number u at) (spec_at u at)

abbrev pub iota_by : Unit → NodeRef → Option Spec → Option ℕ
iota_by u at None = written_iota u at
iota_by u at (Some spec) = Some spec.iota

-- the number of the specification: that which repeats the passage, else that in which the node is written
abbrev pub iota_of : Unit → ℕ → NodeRef → Option ℕ
iota_of u block at = iota_by u at (option_and_then (λ (p : Passage). p.spec) (passage_at u block))

-- the place of `iota` among the predeclared names
abbrev pub iota_place : ℕ
iota_place = 20

-- E3: `iota` outside a constant declaration
abbrev pub predeclared : Option ℕ → ℕ → TreeMeaning
predeclared None i = if i == iota_place then WrongInTree UNDEFINED else predeclared_mark 0 i
predeclared (Some iota) i = predeclared_mark iota i

-- ---- names

-- a use of an object; nothing is said where its mark isn't good
unfoldable pub used : Wish → Meaning → Rule
used wish m = need m (λ x. done (operand x.mode x.of x.value wish))

-- the mark of the object that is declared at a name
abbrev pub object_ask : Unit → NodeRef → Wish → Rule
object_ask u name wish = bind (mark_ask u s.Object name.file name.node) (used wish)

-- E3 where a name denotes nothing
abbrev pub denoted : Unit → Option ℕ → Wish → Option Object → Rule
denoted u iota wish None = done (Wrong UNDEFINED)
denoted u iota wish (Some (o.Universe i)) = done (wished wish (predeclared iota i))
denoted u iota wish (Some (o.Import at)) = done (wished wish (use_mark (Some (import_meaning u at))))
denoted u iota wish (Some (o.Local name)) = object_ask u name wish
denoted u iota wish (Some (o.Package name)) = object_ask u name wish

-- E17 a blank, E10 where a type is wanted
abbrev pub blank : Demand → Wish → Meaning
blank demand wish = wished wish (blank_mark demand)

unfoldable pub name_rule : Unit → ℕ → NodeRef → Node → Wanted → Rule
name_rule u block at node w =
    if is_blank (first_spelled u at.file node) then done (blank w.demand w.wish) else denoted u (iota_of u block at) w.wish (object_at u at)

-- ---- qualified identifiers

-- what the first part of a selector denotes
abbrev pub owner_at : Unit → NodeRef → Node → Option Object
owner_at u at node = option_and_then (λ n. object_at u (place at.file n)) (part node 0)

-- E9 where a package hasn't the name; E20: no basic type has fields or methods. Nothing is said yet of those of other types.
abbrev pub selected : Unit → List ℕ → Option Object → Wish → Known → Meaning
selected u name owner wish x =
    if is_package x.mode then wished wish (exported_mark (exported_of u name owner))
    else (if is_basic x.of then Wrong NO_SUCH_FIELD_OR_METHOD else Quiet)

abbrev pub owned : Unit → List ℕ → Option Object → Wish → Meaning → Rule
owned u name owner wish m = need m (λ x. done (selected u name owner wish x))

unfoldable pub selector_rule : Unit → NodeRef → Node → Part → Wanted → Rule
selector_rule u at node a w =
    if is_blank (last_spelled u at.file node) then done (blank w.demand w.wish)
    else owned u (last_spelled u at.file node) (owner_at u at node) w.wish a.mark

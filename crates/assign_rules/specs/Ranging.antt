-- Range clauses (Go 1.17, "For statements with range clause").
use Rattle.std.specs.Prelude.{ℕ, ◌==◌, nat_le, Bool, true, if◌then◌else◌, List, length, Option, Some, None, slice_get}
use Rattle.std.specs.Option.{option_map_or}
use Rattle.gv_base.specs.declared.constant.Kind.{Kind}
use Rattle.gv_base.specs.declared.constant.Kind.TheVariants as kind
use Rattle.go_tree.specs.declared.tree.Node.{Node}
use Rattle.go_tree.specs.declared.tree.NodeKind.{NodeKind}
use Rattle.go_tree.specs.declared.tree.NodeKind.TheVariants as k
use Rattle.package_objects.specs.Declares.{items, part}
use Rattle.mark_walk.specs.Asks.{done, bind}
use Rattle.type_model.specs.declared.term.Dir.{Dir}
use Rattle.type_model.specs.declared.term.Dir.TheVariants as dir
use Rattle.type_model.specs.GoTypes.{GoType, BasicType, DefinedType, PointerTo, SliceOf, ArrayOf, MapOf, ChanOf, FuncOf, StructOf, InterfaceOf}
use Rattle.typed_tree.specs.Operands.{is_text}
use Rattle.typed_marks.specs.declared.item.Stage.TheVariants as s
use Rattle.typed_marks.specs.Meanings.{Known, Meaning, Right, Wrong, Quiet}
use Rattle.type_questions.specs.declared.reached.Reached.{Reached}
use Rattle.type_questions.specs.declared.reached.Reached.TheVariants.{Got}
use Rattle.unit_read.specs.declared.place.Place.{Place}
use Rattle.unit_read.specs.Units.{Unit, nodes_at}
use Rattle.rule_words.specs.Asking.{Asks, Rule, mark_ask, under_ask}
use Rattle.rule_words.specs.Good.{given}
use Rattle.rule_words.specs.Wishes.{free_operand, nothing_wanted}
use Rattle.typed_tree.specs.declared.rule.TheConstants.{NO_NEW_VARIABLE, CANNOT_RANGE, TOO_MANY_RANGE_VARIABLES}
use Rattle.assign_rules.specs.Assigning.{has_new}
use Rattle.assign_rules.specs.Single.{typed_fault, unless, fitting}
use Rattle.assign_rules.specs.Sharing.{one_assigned, then_others, shared_told}
use Rattle.assign_rules.specs.Words.{held_if, placed_good, variable}

-- ---- the table of the section

-- the types of the first and the second value; a channel gives one
pub record Ranged : Type 0 where
  pub first : GoType
  pub second : Option GoType

abbrev pub pair_of : GoType → GoType → Ranged
pair_of first second = record { first = first; second = Some second }

abbrev pub indexed : GoType → Ranged
indexed of = pair_of (BasicType kind.Int) of

-- "string: index i int, see below rune"
abbrev pub text_ranged : Kind → Option Ranged
text_ranged of = if is_text of then Some (indexed (BasicType kind.Int32)) else None

abbrev pub only_one : GoType → Ranged
only_one of = record { first = of; second = None }

-- "channel c chan E, <-chan E: element e E"
abbrev pub received_from : Dir → GoType → Option Ranged
received_from dir.Both of = Some (only_one of)
received_from dir.Receive of = Some (only_one of)
received_from dir.Send of = None

-- what is known of an operand: nothing where its underlying type isn't known; it can't be ranged over; or what a range over it gives
pub data Ranging : Type 0 where
  Unknown : Ranging
  Refused : Ranging
  Gives : Ranged → Ranging

abbrev pub ranging_of : Option Ranged → Ranging
ranging_of None = Refused
ranging_of (Some r) = Gives r

-- "pointer to array": of what a pointer leads to, an array alone
unfoldable pub pointed_ranging : GoType → Ranging
pointed_ranging (ArrayOf size of) = Gives (indexed of)
pointed_ranging (BasicType of) = Refused
pointed_ranging (DefinedType name) = Refused
pointed_ranging (PointerTo of) = Refused
pointed_ranging (SliceOf of) = Refused
pointed_ranging (MapOf key of) = Refused
pointed_ranging (ChanOf direction of) = Refused
pointed_ranging (FuncOf of) = Refused
pointed_ranging (StructOf fields) = Refused
pointed_ranging (InterfaceOf methods) = Refused

abbrev pub pointed_told : Option GoType → Asks Ranging
pointed_told under = done (option_map_or pointed_ranging under Unknown)

-- of an underlying type, what a range over it gives
unfoldable pub ranging_under : Unit → GoType → Asks Ranging
ranging_under u (ArrayOf size of) = done (Gives (indexed of))
ranging_under u (SliceOf of) = done (Gives (indexed of))
ranging_under u (MapOf key of) = done (Gives (pair_of key of))
ranging_under u (ChanOf direction of) = done (ranging_of (received_from direction of))
ranging_under u (BasicType of) = done (ranging_of (text_ranged of))
ranging_under u (PointerTo of) = bind (under_ask u of) pointed_told
ranging_under u (DefinedType name) = done Refused
ranging_under u (FuncOf of) = done Refused
ranging_under u (StructOf fields) = done Refused
ranging_under u (InterfaceOf methods) = done Refused

abbrev pub ranging_told : Unit → Option GoType → Asks Ranging
ranging_told u under = option_map_or (ranging_under u) under (done Unknown)

-- of an operand
unfoldable pub ranging_ask : Unit → Known → Asks Ranging
ranging_ask u x = bind (under_ask u x.last) (ranging_told u)

-- the type of the value at a place
abbrev pub ranged_type : ℕ → Ranged → Option GoType
ranged_type i r = if i == 0 then Some r.first else (if i == 1 then r.second else None)

-- ---- the statement

-- how many operands or names stand on the left
abbrev pub left_count : List Node → NodeKind → Node → ℕ
left_count nodes k.ForRange node = 0
left_count nodes _ node = length (items nodes (part node 0))

abbrev pub operand_slot : NodeKind → ℕ
operand_slot k.ForRange = 0
operand_slot _ = 1

-- the second of a channel isn't permitted, nor a third
abbrev pub permitted : Ranged → ℕ
permitted r = option_map_or (λ (of : GoType). 2) r.second 1

-- E80
abbrev pub range_counted : ℕ → Ranged → Rule
range_counted count r = held_if (nat_le count (permitted r)) TOO_MANY_RANGE_VARIABLES

-- E79, then E80
abbrev pub range_held : ℕ → Ranging → Rule
range_held count Unknown = done Quiet
range_held count Refused = done (Wrong CANNOT_RANGE)
range_held count (Gives r) = range_counted count r

abbrev pub range_known : Unit → ℕ → Known → Rule
range_known u count x = bind (ranging_ask u x) (range_held count)

abbrev pub range_placed : Unit → ℕ → Meaning → Rule
range_placed u count m = given m (range_known u count)

abbrev pub range_operand : Unit → ℕ → ℕ → ℕ → Rule
range_operand u block count n = bind (mark_ask u s.Placed block n) (range_placed u count)

abbrev pub range_by : Unit → ℕ → ℕ → Node → Rule
range_by u block count node = option_map_or (range_operand u block count) (part node (operand_slot node.kind)) (done Quiet)

abbrev pub range_rule : Unit → ℕ → ℕ → Node → Rule
range_rule u block file node = range_by u block (left_count (nodes_at u file) node.kind node) node

-- with `:=` E8 comes first: all names may be blank
abbrev pub range_define_rule : Unit → ℕ → ℕ → Node → Rule
range_define_rule u block file node = if has_new u file (nodes_at u file) node then range_rule u block file node else done (Wrong NO_NEW_VARIABLE)

-- ---- places

abbrev pub range_wants : Place → Node → Rule
range_wants p around = if p.slot == operand_slot around.kind then free_operand else nothing_wanted

-- ---- E32 at the operand: "the assignment to each iteration variable is an assignment statement"

abbrev pub target_ranged : Unit → ℕ → ℕ → List Node → NodeKind → Ranged → ℕ → ℕ → Asks (Reached Bool)
target_ranged u block file nodes kind r i t = option_map_or (one_assigned u block file nodes kind t) (ranged_type i r) (done (Got true))

abbrev pub nth_ranged : Unit → ℕ → ℕ → List Node → Node → Ranged → ℕ → Asks (Reached Bool)
nth_ranged u block file nodes around r i =
    option_map_or (target_ranged u block file nodes around.kind r i) (slice_get (items nodes (part around 0)) i) (done (Got true))

unfoldable pub both_ranged : Unit → ℕ → ℕ → List Node → Node → Ranged → Asks (Reached Bool)
both_ranged u block file nodes around r = bind (nth_ranged u block file nodes around r 0) (then_others (nth_ranged u block file nodes around r 1))

abbrev pub assigned_ranged : Unit → ℕ → ℕ → List Node → Node → Known → Ranged → Rule
assigned_ranged u block file nodes around x r = bind (both_ranged u block file nodes around r) (shared_told x)

-- what can't be ranged over is refused by the statement
abbrev pub operand_told : Unit → ℕ → ℕ → List Node → Node → Known → Ranging → Rule
operand_told u block file nodes around x Unknown = done (Right x)
operand_told u block file nodes around x Refused = done (Right x)
operand_told u block file nodes around x (Gives r) = assigned_ranged u block file nodes around x r

abbrev pub operand_good : Unit → ℕ → ℕ → List Node → Node → Known → Rule
operand_good u block file nodes around x = bind (ranging_ask u x) (operand_told u block file nodes around x)

-- E24, E25, E26, E30, E32
abbrev pub operand_by : Unit → ℕ → ℕ → List Node → Node → Known → Rule
operand_by u block file nodes around x = unless (typed_fault x.mode) (fitting x (operand_good u block file nodes around x))

-- The mark of the operand of a range clause with `=`, from its own mark.
abbrev pub operand_rule : Unit → ℕ → ℕ → List Node → Node → Meaning → Rule
operand_rule u block file nodes around m = placed_good (operand_by u block file nodes around) m

-- ---- the variables that are declared

abbrev pub named_of : ℕ → Ranged → Rule
named_of i r = done (option_map_or variable (ranged_type i r) Quiet)

abbrev pub named_told : ℕ → Ranging → Rule
named_told i Unknown = done Quiet
named_told i Refused = done Quiet
named_told i (Gives r) = named_of i r

abbrev pub named_known : Unit → ℕ → Known → Rule
named_known u i x = bind (ranging_ask u x) (named_told i)

abbrev pub named_placed : Unit → ℕ → Meaning → Rule
named_placed u i m = given m (named_known u i)

abbrev pub named_operand : Unit → ℕ → ℕ → ℕ → Rule
named_operand u file i n = bind (mark_ask u s.Placed file n) (named_placed u i)

-- The object of the name at a place on the left of a range clause.
abbrev pub range_object : Unit → ℕ → Node → ℕ → Rule
range_object u file node i = option_map_or (named_operand u file i) (part node 1) (done Quiet)

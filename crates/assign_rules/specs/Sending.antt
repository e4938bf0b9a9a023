-- Send statements (Go 1.17, "Send statements").
use Rattle.std.specs.Prelude.{ℕ, ◌==◌, if◌then◌else◌, Option, Some, None}
use Rattle.std.specs.Option.{option_map_or}
use Rattle.go_tree.specs.declared.tree.Node.{Node}
use Rattle.package_objects.specs.Declares.{part}
use Rattle.mark_walk.specs.Asks.{done, bind}
use Rattle.type_model.specs.declared.term.Dir.{Dir}
use Rattle.type_model.specs.declared.term.Dir.TheVariants as dir
use Rattle.type_model.specs.GoTypes.{GoType, BasicType, DefinedType, PointerTo, SliceOf, ArrayOf, MapOf, ChanOf, FuncOf, StructOf, InterfaceOf}
use Rattle.typed_tree.specs.declared.place.Want.TheVariants as demand
use Rattle.typed_marks.specs.declared.item.Stage.TheVariants as s
use Rattle.typed_marks.specs.Meanings.{Known, Assigned, Meaning, Wrong, Quiet}
use Rattle.unit_read.specs.declared.place.Place.{Place}
use Rattle.unit_read.specs.Units.{Unit}
use Rattle.rule_words.specs.Asking.{Rule, mark_ask, mark_under, under_ask}
use Rattle.rule_words.specs.Good.{given}
use Rattle.rule_words.specs.Words.{need_type}
use Rattle.rule_words.specs.Wishes.{free_operand, nothing_wanted, wants}
use Rattle.typed_tree.specs.declared.rule.TheConstants.{CANNOT_SEND}
use Rattle.assign_rules.specs.Words.{holds, loose_operand}

-- "the channel direction must permit send operations"
abbrev pub sent_along : Dir → GoType → Option GoType
sent_along dir.Both of = Some of
sent_along dir.Send of = Some of
sent_along dir.Receive of = None

-- the type of what may be sent to a channel of this type
unfoldable pub element_of : GoType → Option GoType
element_of (ChanOf direction of) = sent_along direction of
element_of (BasicType kind) = None
element_of (DefinedType name) = None
element_of (PointerTo of) = None
element_of (SliceOf of) = None
element_of (ArrayOf size of) = None
element_of (MapOf key of) = None
element_of (FuncOf of) = None
element_of (StructOf fields) = None
element_of (InterfaceOf methods) = None

-- E77
abbrev pub send_under : GoType → Rule
send_under under = option_map_or (λ of. holds) (element_of under) (done (Wrong CANNOT_SEND))

abbrev pub send_told : Option GoType → Rule
send_told under = need_type under send_under

abbrev pub send_known : Unit → Known → Rule
send_known u x = bind (under_ask u x.last) send_told

abbrev pub send_placed : Unit → Meaning → Rule
send_placed u m = given m (send_known u)

abbrev pub send_part : Unit → ℕ → ℕ → Rule
send_part u block n = bind (mark_ask u s.Placed block n) (send_placed u)

-- The rule of a send statement: E77 of its channel.
abbrev pub send_rule : Unit → ℕ → Node → Rule
send_rule u block node = option_map_or (send_part u block) (part node 0) (done Quiet)

-- ---- "the type of the value to be sent must be assignable to the channel's element type"

abbrev pub element_wants : Unit → ℕ → ℕ → GoType → Rule
element_wants u block n under = option_map_or (λ of. wants demand.Operand (Assigned of)) (element_of under) (loose_operand u block n)

abbrev pub sent_told : Unit → ℕ → ℕ → Option GoType → Rule
sent_told u block n under = option_map_or (element_wants u block n) under (loose_operand u block n)

abbrev pub sent_by : Unit → ℕ → ℕ → Meaning → Rule
sent_by u block n m = bind (mark_under u m) (sent_told u block n)

abbrev pub sent_wants : Unit → ℕ → ℕ → ℕ → Rule
sent_wants u block c n = bind (mark_ask u s.Placed block c) (sent_by u block n)

abbrev pub sent_beside : Unit → ℕ → Node → ℕ → Rule
sent_beside u block around c = option_map_or (sent_wants u block c) (part around 1) nothing_wanted

abbrev pub value_wants : Unit → ℕ → Node → Rule
value_wants u block around = option_map_or (sent_beside u block around) (part around 0) nothing_wanted

-- What the places in a send statement want.
abbrev pub send_wants : Unit → ℕ → Place → Node → Rule
send_wants u block p around = if p.slot == 0 then free_operand else value_wants u block around

-- The receive operator, and receive-only channel types (Go 1.17, "Receive operator", "Channel types").
use Rattle.std.specs.Prelude.{Bool, if◌then◌else◌, Option, Some, None}
use Rattle.mark_walk.specs.Asks.{done, bind}
use Rattle.type_model.specs.declared.term.Dir.{Dir}
use Rattle.type_model.specs.declared.term.Dir.TheVariants as dir
use Rattle.type_model.specs.GoTypes.{GoType}
use Rattle.typed_tree.specs.declared.rule.TheConstants.{NOT_A_TYPE}
use Rattle.typed_tree.specs.Places.{is_type}
use Rattle.typed_tree.specs.declared.mark.Mode.TheVariants as mode
use Rattle.typed_marks.specs.Meanings.{Known, Wrong, Quiet}
use Rattle.unit_read.specs.Units.{Unit}
use Rattle.rule_words.specs.Asking.{Rule, under_ask}
use Rattle.rule_words.specs.Parts.{Part}
use Rattle.rule_words.specs.Words.{need}
use Rattle.typed_tree.specs.declared.rule.TheConstants.{CANNOT_RECEIVE}
use Rattle.primary_rules.specs.Operands.{standing}
use Rattle.primary_rules.specs.Shapes.{Shape, Texts, Slices, Arrays, Maps, Pointers, Channels, Interfaces, Others, shape_of}

-- E78: a channel to which values are sent alone
abbrev pub received : Dir → GoType → Rule
received dir.Both of = done (standing mode.CommaOk of)
received dir.Receive of = done (standing mode.CommaOk of)
received dir.Send of = done (Wrong CANNOT_RECEIVE)

-- E78
abbrev pub receive_shape : Shape → Rule
receive_shape (Channels direction of) = received direction of
receive_shape Texts = done (Wrong CANNOT_RECEIVE)
receive_shape (Slices of) = done (Wrong CANNOT_RECEIVE)
receive_shape (Arrays size of) = done (Wrong CANNOT_RECEIVE)
receive_shape (Maps key of) = done (Wrong CANNOT_RECEIVE)
receive_shape (Pointers of) = done (Wrong CANNOT_RECEIVE)
receive_shape Interfaces = done (Wrong CANNOT_RECEIVE)
receive_shape Others = done (Wrong CANNOT_RECEIVE)

abbrev pub receive_under : Option GoType → Rule
receive_under None = done Quiet
receive_under (Some under) = receive_shape (shape_of under)

unfoldable pub receive : Unit → Known → Rule
receive u x = bind (under_ask u x.last) receive_under

-- E10: the arrow has no `chan` to go to. The type to which it goes is receive-only by itself.
abbrev pub arrow_of : Bool → Known → Rule
arrow_of takes x = if takes then done (standing mode.TypeName x.of) else done (Wrong NOT_A_TYPE)

-- before a type, whose arrow it may be, or before a channel
abbrev pub receive_of : Unit → Bool → Known → Rule
receive_of u takes x = if is_type x.mode then arrow_of takes x else receive u x

unfoldable pub receive_rule : Unit → Bool → Part → Rule
receive_rule u takes p = need p.mark (receive_of u takes)

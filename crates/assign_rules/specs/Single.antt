-- A single value in a place that makes more of it (Go 1.17, "Operands", "Representability").
use Rattle.std.specs.Prelude.{Bool, true, false, if◌then◌else◌, Option, Some, None}
use Rattle.gv_base.specs.declared.constant.Const.{Const}
use Rattle.mark_walk.specs.Asks.{done, bind}
use Rattle.type_rel.specs.Kinds.{is_untyped}
use Rattle.typed_tree.specs.declared.mark.Mode.{Mode}
use Rattle.typed_tree.specs.declared.mark.Mode.TheVariants as mode
use Rattle.typed_tree.specs.declared.rule.Rule.{Rule as RuleNumber}
use Rattle.typed_tree.specs.declared.rule.TheConstants.{NOT_A_VALUE, SEVERAL_VALUES, NIL_WITHOUT_A_TYPE, CONSTANT_OVERFLOW}
use Rattle.typed_marks.specs.Meanings.{Known, Wrong}
use Rattle.type_questions.specs.declared.reached.Reached.{Reached}
use Rattle.type_questions.specs.declared.reached.Reached.TheVariants.{Got, Lost}
use Rattle.type_answers.specs.Asked.{assignable_ask, need_told}
use Rattle.rule_words.specs.Asking.{Asks, Rule}
use Rattle.rule_words.specs.Types.{is_of}

-- E24 where no value stands, E25 where several do; nil is one
abbrev pub value_fault : Mode → Option RuleNumber
value_fault mode.Constant = None
value_fault mode.Variable = None
value_fault mode.MapIndex = None
value_fault mode.Value = None
value_fault mode.CommaOk = None
value_fault mode.Nil = None
value_fault mode.NoValue = Some NOT_A_VALUE
value_fault mode.TypeName = Some NOT_A_VALUE
value_fault mode.Builtin = Some NOT_A_VALUE
value_fault mode.Package = Some NOT_A_VALUE
value_fault mode.Many = Some SEVERAL_VALUES

-- E24, E25, and E26: of nil no type is known
abbrev pub typed_fault : Mode → Option RuleNumber
typed_fault mode.Nil = Some NIL_WITHOUT_A_TYPE
typed_fault mode = value_fault mode

abbrev pub unless : Option RuleNumber → Rule → Rule
unless None rest = rest
unless (Some rule) rest = done (Wrong rule)

-- ---- E30: an untyped constant is representable in the type that it takes

abbrev pub fits_by : Known → Option Const → Asks (Reached Bool)
fits_by x None = done (Got true)
fits_by x (Some c) = assignable_ask false x.of x.value x.last

unfoldable pub fits_ask : Known → Asks (Reached Bool)
fits_ask x = if is_of is_untyped x.of then fits_by x x.value else done (Got true)

abbrev pub fits_if : Rule → Bool → Rule
fits_if rest b = if b then rest else done (Wrong CONSTANT_OVERFLOW)

abbrev pub fits_told : Rule → Reached Bool → Rule
fits_told rest told = need_told told (fits_if rest)

abbrev pub fitting : Known → Rule → Rule
fitting x rest = bind (fits_ask x) (fits_told rest)

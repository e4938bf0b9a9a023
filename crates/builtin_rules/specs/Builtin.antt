-- Calls of built-in functions (Go 1.17, "Built-in functions").
use Rattle.std.specs.Prelude.{ℕ, Bool, if◌then◌else◌, List, length, Option, Some, None, pos}
use Rattle.std.specs.Option.{option_map_or}
use Rattle.gv_base.specs.declared.constant.Const.{Const}
use Rattle.gv_base.specs.declared.constant.Const.TheVariants as const
use Rattle.gv_base.specs.declared.constant.Kind.TheVariants as kind
use Rattle.go_tree.specs.declared.tree.Node.{Node}
use Rattle.package_objects.specs.Declares.{part}
use Rattle.type_model.specs.GoTypes.{GoType, BasicType, PointerTo, InterfaceOf, NoMethod}
use Rattle.mark_walk.specs.Asks.{done, bind}
use Rattle.typed_tree.specs.declared.mark.Mode.TheVariants as mode
use Rattle.typed_marks.specs.Meanings.{Known, Meaning, Quiet}
use Rattle.unit_read.specs.Units.{Unit}
use Rattle.rule_words.specs.Answers.{typed, constant}
use Rattle.rule_words.specs.Asking.{Rule}
use Rattle.rule_words.specs.Parts.{Part, part_at}
use Rattle.rule_words.specs.Words.{need, test, nothing}
use Rattle.builtin_rules.specs.declared.lines.Builtin.{Builtin}
use Rattle.builtin_rules.specs.declared.lines.Gives.{Gives}
use Rattle.builtin_rules.specs.declared.lines.Gives.TheVariants as gives
use Rattle.builtin_rules.specs.declared.lines.Line.{Line}
use Rattle.typed_tree.specs.declared.rule.TheConstants.{WRONG_NUMBER_OF_ARGUMENTS, BAD_DOTS, BAD_BUILTIN_ARGUMENT}
use Rattle.builtin_rules.specs.Builtins.{line_of, may_spread, takes_as_many}
use Rattle.builtin_rules.specs.Musts.{Argument, argument_at, are_known, shape_ask, is_met}
use Rattle.builtin_rules.specs.Named.{argument_count}
use Rattle.builtin_rules.specs.Quiet.{quiet_ask}
use Rattle.builtin_rules.specs.Types.{size_of}
use Rattle.builtin_rules.specs.Values.{value_of}

-- ---- `len` and `cap`: where they are constants

abbrev pub int_type : GoType
int_type = BasicType kind.Int

abbrev pub int_value : Meaning
int_value = value_of int_type

abbrev pub int_constant : ℕ → Meaning
int_constant n = constant int_type int_type (const.Int (pos n))

abbrev pub sized : ℕ → Bool → Meaning
sized n quiet = if quiet then int_constant n else int_value

abbrev pub sized_by : ℕ → Bool → Rule
sized_by n quiet = done (sized n quiet)

-- the length of an array whose operand has no receives, and no calls but constants and conversions
abbrev pub array_count : Unit → ℕ → ℕ → Option ℕ → ℕ → Rule
array_count u block file None n = done int_value
array_count u block file (Some at) n = bind (quiet_ask u block file at) (sized_by n)

unfoldable pub count_of_type : Unit → ℕ → ℕ → Node → GoType → Rule
count_of_type u block file node of = option_map_or (array_count u block file (part node 1)) (size_of of) (done int_value)

-- that of a constant string
abbrev pub text_count : Const → Option ℕ
text_count (const.Text bytes) = Some (length bytes)
text_count (const.Int z) = None
text_count (const.Truth b) = None

abbrev pub constant_count : Option Const → Option ℕ
constant_count None = None
constant_count (Some c) = text_count c

abbrev pub argument_text : List Part → Option ℕ
argument_text ps = option_map_or (λ (a : Argument). constant_count a.value) (argument_at ps 1) None

unfoldable pub count_rule : Unit → ℕ → ℕ → Node → List Part → GoType → Rule
count_rule u block file node ps of = option_map_or (λ n. done (int_constant n)) (argument_text ps) (count_of_type u block file node of)

-- ---- what is given

abbrev pub same_type_given : Known → Rule
same_type_given x = done (value_of x.of)

abbrev pub pointer_given : Known → Rule
pointer_given x = done (typed mode.Value (PointerTo x.of))

unfoldable pub given_rule : Unit → ℕ → ℕ → Node → List Part → GoType → Gives → Rule
given_rule u block file node ps of gives.Nothing = done nothing
given_rule u block file node ps of gives.Int = done int_value
given_rule u block file node ps of gives.Any = done (typed mode.Value (InterfaceOf NoMethod))
given_rule u block file node ps of gives.Same = need (part_at ps 1).mark same_type_given
given_rule u block file node ps of gives.Pointer = need (part_at ps 1).mark pointer_given
given_rule u block file node ps of gives.Count = count_rule u block file node ps of

-- ---- tests

-- E55, where this type is looked at
abbrev pub met_rule : Unit → ℕ → ℕ → Node → List Part → Line → GoType → Rule
met_rule u block file node ps l of = test (is_met l.must ps of) BAD_BUILTIN_ARGUMENT (given_rule u block file node ps of l.gives)

abbrev pub shaped_rule : Unit → ℕ → ℕ → Node → List Part → Line → Option GoType → Rule
shaped_rule u block file node ps l None = done Quiet
shaped_rule u block file node ps l (Some of) = met_rule u block file node ps l of

-- the underlying type of the first argument; where none has to be good it doesn't matter
abbrev pub first_under : List Part → GoType
first_under ps = option_map_or (λ (a : Argument). a.under) (argument_at ps 1) (BasicType kind.UntypedNil)

unfoldable pub known_rule : Unit → ℕ → ℕ → Node → List Part → Line → Rule
known_rule u block file node ps l = bind (shape_ask u l.must (first_under ps)) (shaped_rule u block file node ps l)

unfoldable pub arguments_rule : Unit → ℕ → ℕ → Node → List Part → Line → Rule
arguments_rule u block file node ps l = if are_known l.must ps then known_rule u block file node ps l else done Quiet

-- E51, then E55
unfoldable pub counted_line : Unit → ℕ → ℕ → Node → List Part → Bool → Line → Rule
counted_line u block file node ps spread l =
    test (takes_as_many l spread (argument_count ps)) WRONG_NUMBER_OF_ARGUMENTS (arguments_rule u block file node ps l)

-- E52, E51, E55
unfoldable pub line_rule : Unit → ℕ → ℕ → Node → List Part → Bool → Line → Rule
line_rule u block file node ps spread l = test (may_spread l spread) BAD_DOTS (counted_line u block file node ps spread l)

unfoldable pub builtin_rule : Unit → ℕ → ℕ → Node → List Part → Bool → Option Builtin → Rule
builtin_rule u block file node ps spread None = done Quiet
builtin_rule u block file node ps spread (Some b) = line_rule u block file node ps spread (line_of b)

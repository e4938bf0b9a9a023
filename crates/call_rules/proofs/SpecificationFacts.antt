-- Examples of the Go specification, of the definitions.
use Rattle.std.proofs.Common.{◌≡◌, [], ◌∷◌, true, false, Some, None, refl}
use Rattle.std.specs.Prelude.{pos}
use Rattle.gv_base.specs.declared.constant.Const.TheVariants as const
use Rattle.gv_base.specs.declared.constant.Kind.TheVariants as kind
use Rattle.type_model.specs.GoTypes.{GoType, GoSignature, BasicType, SliceOf, FuncOf, From, NoType, AndType}
use Rattle.typed_tree.specs.declared.rule.TheConstants.{CONSTANT_OVERFLOW}
use Rattle.typed_marks.specs.Meanings.{Quiet, Wrong}
use Rattle.rule_words.specs.Parts.{Part}
use Rattle.rule_words.specs.Answers.{constant}
use Rattle.typed_tree.specs.declared.rule.TheConstants.{BAD_DOTS}
use Rattle.call_rules.specs.declared.given.Given.TheVariants as g
use Rattle.typed_tree.specs.declared.rule.TheConstants.{CANNOT_CONVERT}
use Rattle.call_rules.specs.Calling.{several_of}
use Rattle.call_rules.specs.Converting.{unspread, is_convertible, constant_fault, constant_converted}
use Rattle.call_rules.specs.Given.{param_at, accepts, sole_given, given_of, is_accepted}

abbrev text : GoType
text = BasicType kind.Text

abbrev byte : GoType
byte = BasicType kind.Uint8

abbrev int : GoType
int = BasicType kind.Int

-- ---- "Passing arguments to ... parameters": `func Greeting(prefix string, who ...string)`

abbrev greeting : GoSignature
greeting = From (AndType text (AndType (SliceOf text) NoType)) NoType true

-- `Greeting("nobody")`
pub nobody : accepts greeting false 1 ≡ true
unfolding accepts
nobody = refl

-- `Greeting("hello:", "Joe", "Anna", "Eileen")`
pub hello : accepts greeting false 4 ≡ true
unfolding accepts
hello = refl

pub no_prefix : accepts greeting false 0 ≡ false
unfolding accepts
no_prefix = refl

-- `s := []string{"James", "Jasmine"}; Greeting("goodbye:", s...)`
pub goodbye : accepts greeting true 2 ≡ true
unfolding accepts
goodbye = refl

pub spread_beside : accepts greeting true 3 ≡ false
unfolding accepts
spread_beside = refl

pub each_is_a_text : param_at greeting false 3 ≡ Some text
unfolding param_at
each_is_a_text = refl

pub all_are_a_slice : param_at greeting true 1 ≡ Some (SliceOf text)
unfolding param_at
all_are_a_slice = refl

-- ---- "Calls": `f(g())`

-- a call of these results, as the only argument
abbrev results_part : GoType → Part
results_part of = record { mark = several_of of; under = Some of }

abbrev callee_part : Part
callee_part = record { mark = Quiet; under = None }

-- `func Split(s string, pos int) (string, string)`
abbrev split : GoType
split = FuncOf (From (AndType text (AndType int NoType)) (AndType text (AndType text NoType)) false)

pub split_gives_two : given_of false true (callee_part ∷ results_part split ∷ []) ≡ g.Count 2
unfolding given_of sole_given
split_gives_two = refl

-- one result too many
pub one_too_many : is_accepted (From (AndType text NoType) NoType false) false (given_of false true (callee_part ∷ results_part split ∷ [])) ≡ false
unfolding given_of sole_given accepts
one_too_many = refl

-- ---- "Conversions", "Constant expressions"

-- `string('x')` is `"x"`
pub character : constant_converted false text (const.Int (pos 120)) kind.Text ≡ constant text text (const.Text (120 ∷ []))
unfolding constant_converted unspread lib.Utf8.encode
character = refl

-- `int8(200)`
pub too_large : constant_converted false (BasicType kind.Int8) (const.Int (pos 200)) kind.Int8 ≡ Wrong CONSTANT_OVERFLOW
unfolding constant_converted constant_fault is_convertible
too_large = refl

-- `int("x")`
pub no_number : constant_converted false int (const.Text (120 ∷ [])) kind.Int ≡ Wrong CANNOT_CONVERT
unfolding constant_converted constant_fault is_convertible
no_number = refl

-- `bool(1)`
pub no_truth : constant_converted false (BasicType kind.Bool) (const.Int (pos 1)) kind.Bool ≡ Wrong CANNOT_CONVERT
unfolding constant_converted constant_fault is_convertible
no_truth = refl

-- `uint8(255)`, and with `...` behind it
pub largest : constant_converted false byte (const.Int (pos 255)) kind.Uint8 ≡ constant byte byte (const.Int (pos 255))
unfolding constant_converted unspread
largest = refl

pub spread_conversion : constant_converted true byte (const.Int (pos 255)) kind.Uint8 ≡ Wrong BAD_DOTS
unfolding constant_converted unspread
spread_conversion = refl

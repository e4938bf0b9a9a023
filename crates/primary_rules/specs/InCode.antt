-- Operands and types of primary expressions in code, with types and constants by number.
use Rattle.std.specs.Prelude.{◌≡◌, ◌<◌, length, Option, Some, None, option_map, IfSome}
use Rattle.typed_marks.specs.declared.state.State.{State}
use Rattle.typed_marks.specs.declared.mark.Want.{Want}
use Rattle.typed_marks.specs.Meanings.{Wish, wish_in, constant_at, IsValueWithin, IsWantWithin}
use Rattle.rule_words.specs.Parts.{Part}
use Rattle.rule_words.specs.Answers.{answer_in, IsAnswerOf}
use Rattle.rule_words.specs.Scenes.{type_in, IsTypeOf, part_in, IsSeenOf}
use Rattle.rule_words.specs.declared.seen.Seen.{Seen}
use Rattle.primary_rules.specs.declared.indexing.Elements.{Elements as ElementsInCode}
use Rattle.primary_rules.specs.declared.operand.Operand.{Operand as InCode}
use Rattle.primary_rules.specs.declared.passing.Passing.{Passing as PassingInCode}
use Rattle.primary_rules.specs.declared.passing.Passing.TheVariants as way
use Rattle.primary_rules.specs.declared.shape.Shape.{Shape as ShapeInCode}
use Rattle.primary_rules.specs.declared.shape.Shape.TheVariants as code
use Rattle.primary_rules.specs.declared.bounds.Chosen.{Chosen}
use Rattle.primary_rules.specs.declared.slicing.Given.{Given}
use Rattle.primary_rules.specs.declared.bounds.Parts.{Parts}
use Rattle.primary_rules.specs.Indexing.{Elements, elements}
use Rattle.primary_rules.specs.Operands.{Operand}
use Rattle.primary_rules.specs.Selecting.{Passing, Passed, LeadsTo}
use Rattle.primary_rules.specs.Shapes.{Shape, Texts, Slices, Arrays, Maps, Pointers, Channels, Interfaces, Others}
use Rattle.primary_rules.specs.Slicing.{Bounds, bounds, Sliced, sliced}

-- ---- operands

abbrev pub operand_in : State → InCode → Operand
operand_in s x = record { mode = x.mode; of = type_in s x.of; value = constant_at s.constants.items x.value; last = type_in s x.last; under = type_in s x.under }

pub record IsOperandOf (s : State) (x : InCode) : Type 0 where
  pub of : IsTypeOf s x.of
  pub value : IsValueWithin (length s.constants.items) x.value
  pub last : IsTypeOf s x.last
  pub under : IsTypeOf s x.under

-- ---- types

abbrev pub shape_in : State → ShapeInCode → Shape
shape_in s code.Texts = Texts
shape_in s (code.Slices of) = Slices (type_in s of)
shape_in s (code.Arrays size of) = Arrays size (type_in s of)
shape_in s (code.Maps key of) = Maps (type_in s key) (type_in s of)
shape_in s (code.Pointers of) = Pointers (type_in s of)
shape_in s (code.Channels direction of) = Channels direction (type_in s of)
shape_in s code.Interfaces = Interfaces
shape_in s code.Others = Others

abbrev pub IsShapeOf : State → ShapeInCode → Type 0
IsShapeOf s code.Texts = Unit {0}
IsShapeOf s (code.Slices of) = IsTypeOf s of
IsShapeOf s (code.Arrays size of) = IsTypeOf s of
IsShapeOf s (code.Maps key of) = IsTypeOf s key × IsTypeOf s of
IsShapeOf s (code.Pointers of) = IsTypeOf s of
IsShapeOf s (code.Channels direction of) = IsTypeOf s of
IsShapeOf s code.Interfaces = Unit {0}
IsShapeOf s code.Others = Unit {0}

-- ---- indexes

abbrev pub elements_in : State → ElementsInCode → Elements
elements_in s e = elements (type_in s e.of) e.mode e.size

-- ---- slices

abbrev pub parts_of : State → Parts → Bounds Part
parts_of s p = bounds (option_map (part_in s) p.low) (option_map (part_in s) p.high) (option_map (part_in s) p.max)

pub record ArePartsOf (s : State) (p : Parts) : Type 0 where
  pub low : IfSome p.low (IsSeenOf s)
  pub high : IfSome p.high (IsSeenOf s)
  pub max : IfSome p.max (IsSeenOf s)

abbrev pub chosen_of : State → Chosen → Bounds Operand
chosen_of s b = bounds (option_map (operand_in s) b.low) (option_map (operand_in s) b.high) (option_map (operand_in s) b.max)

pub record AreChosenOf (s : State) (b : Chosen) : Type 0 where
  pub low : IfSome b.low (IsOperandOf s)
  pub high : IfSome b.high (IsOperandOf s)
  pub max : IfSome b.max (IsOperandOf s)

abbrev pub given_in : State → Given → Sliced
given_in s x = sliced x.size (answer_in s x.gives)

abbrev pub IsGivenOf : State → Given → Type 0
IsGivenOf s x = IsAnswerOf s x.gives

-- ---- selectors

abbrev pub passing_in : State → PassingInCode → Passing
passing_in s (way.Passed b) = Passed b
passing_in s (way.LeadsTo of) = LeadsTo (type_in s of)

abbrev pub IsPassingOf : State → PassingInCode → Type 0
IsPassingOf s (way.Passed b) = Unit {0}
IsPassingOf s (way.LeadsTo of) = IsTypeOf s of

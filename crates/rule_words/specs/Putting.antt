-- Questions that rules put, one after the other (Go 1.17, "Assignability", "Comparison operators").
use Rattle.std.specs.Prelude.{Bool, true, false, if◌then◌else◌, List, [], ◌∷◌, Option, Some, None}
use Rattle.gv_base.specs.declared.constant.Const.{Const}
use Rattle.type_model.specs.GoTypes.{GoType, GoMethods, NoMethod, AndMethod}
use Rattle.type_model.specs.Parts.{GoMethod}
use Rattle.mark_walk.specs.Asks.{done, put}
use Rattle.rel_growth.specs.Assign.{ToAssign}
use Rattle.typed_tree.specs.declared.rule.Rule.{Rule as RuleNumber}
use Rattle.typed_tree.specs.declared.rule.TheConstants.{MISMATCHED_OPERANDS, NOT_COMPARABLE}
use Rattle.typed_marks.specs.Meanings.{Meaning, Wrong, Quiet}
use Rattle.type_questions.specs.declared.reached.Reached.TheVariants.{Got, Lost}
use Rattle.type_questions.specs.Questions.{Question, AssignableTo, IsComparable, MethodSet, Told, Holds, Implementing, Selecting, Listing, Declaring}
use Rattle.rule_words.specs.Asking.{Rule}

-- one rule where a relation holds, and another where it doesn't; nothing is said where a name that it needs is declared by nothing
abbrev pub decided : Rule → Rule → Told → Rule
decided yes_rule no_rule (Holds (Got b)) = if b then yes_rule else no_rule
decided yes_rule no_rule (Holds Lost) = done Quiet
decided yes_rule no_rule (Implementing x) = done Quiet
decided yes_rule no_rule (Selecting x) = done Quiet
decided yes_rule no_rule (Listing x) = done Quiet
decided yes_rule no_rule (Declaring x) = done Quiet

-- the mark where a relation holds, else this rule is broken
abbrev pub held : Meaning → RuleNumber → Told → Rule
held good rule = decided (done good) (done (Wrong rule))

-- ---- assignability

-- an operand without methods, assigned to a type
abbrev pub plain_assign : GoType → Option Const → GoType → Question
plain_assign of value to = AssignableTo (record { v = of; value = value; set = NoMethod; to = to })

-- the methods of a list
abbrev pub methods_from : List GoMethod → GoMethods
methods_from [] = NoMethod
methods_from (m ∷ methods) = AndMethod m.name m.owner m.pointer m.of (methods_from methods)

-- an operand with the methods that were told, assigned to a type
abbrev pub assigned_with : GoType → Option Const → GoType → (Told → Rule) → Told → Rule
assigned_with of value to rest (Listing (Got methods)) = put (AssignableTo (record { v = of; value = value; set = methods_from methods; to = to })) rest
assigned_with of value to rest (Listing Lost) = done Quiet
assigned_with of value to rest (Holds x) = done Quiet
assigned_with of value to rest (Implementing x) = done Quiet
assigned_with of value to rest (Selecting x) = done Quiet
assigned_with of value to rest (Declaring x) = done Quiet

-- Whether an operand is assignable to a type. Its methods count where that is an interface, and are asked for there alone.
abbrev pub assign_ask : Bool → GoType → Option Const → GoType → (Told → Rule) → Rule
assign_ask true of value to rest = put (MethodSet of) (assigned_with of value to rest)
assign_ask false of value to rest = put (plain_assign of value to) rest

-- ---- two typed operands of different types that `==` or `!=` compares

-- their types, whether the underlying type of each is an interface, and what is given where all holds
pub record Compared : Type 0 where
  pub x : GoType
  pub y : GoType
  pub x_interface : Bool
  pub y_interface : Bool
  pub good : Meaning

-- E35: both are comparable
abbrev pub second : Compared → Told → Rule
second p = decided (put (IsComparable p.y) (held p.good NOT_COMPARABLE)) (done (Wrong NOT_COMPARABLE))

abbrev pub compared : Compared → Rule
compared p = put (IsComparable p.x) (second p)

-- E33: the one is assignable to the other
abbrev pub other : Compared → Told → Rule
other p = decided (compared p) (done (Wrong MISMATCHED_OPERANDS))

abbrev pub other_ask : Compared → Rule
other_ask p = assign_ask p.x_interface p.y None p.x (other p)

abbrev pub either : Compared → Told → Rule
either p = decided (compared p) (other_ask p)

-- E33, then E35
abbrev pub either_ask : Compared → Rule
either_ask p = assign_ask p.y_interface p.x None p.y (either p)

-- What types are declared with, in code.
use Rattle.std.specs.Prelude.{◌≡◌, Bool, false, List, Option, None}
use Rattle.mark_walk.specs.Asks.{done}
use Rattle.mark_walk.specs.Telling.{Outcome, Says, Waits, Puts}
use Rattle.type_model.specs.declared.term.Method.{Method}
use Rattle.type_model.specs.declared.term.TypeId.{TypeId}
use Rattle.type_model.specs.declared.term.TypeName.{TypeName}
use Rattle.type_model.specs.Declarations.{Declaration}
use Rattle.type_model.specs.GoTypes.{DefinedType, is_defined, MethodsBelow}
use Rattle.type_model.specs.Tables.{types_in, count, declaration_of}
use Rattle.type_questions.specs.declared.reached.Reached.{Reached}
use Rattle.type_questions.specs.declared.reached.Reached.TheVariants.{Got, Lost}
use Rattle.type_questions.specs.Judging.{IsItemOf}
use Rattle.type_questions.specs.Questions.{Question, IsComparable, Told, Holds, Implementing, Selecting, Listing, Declaring as DeclaringTold}
use Rattle.typed_marks.specs.declared.item.Item.{Item}
use Rattle.typed_marks.specs.declared.state.State.{State}
use Rattle.typed_marks.specs.Meanings.{Meaning, Quiet, Declares}
use Rattle.unit_read.specs.Units.{Unit, base_of}
use Rattle.rule_words.specs.declared.declaring.Declaring.{Declaring}
use Rattle.rule_words.specs.declared.declaring.Declaring.TheVariants as d
use Rattle.rule_words.specs.Asking.{Rule, type_item}
use Rattle.rule_words.specs.Scenes.{type_in, IsTypeOf}

-- ---- a type is declared once all that it holds is

-- whether its values may be compared is told then; where something that it holds is declared by nothing, so is the type
abbrev pub declared_by : Declaration → Reached Bool → Rule
declared_by told (Got b) = done (Declares told)
declared_by told Lost = done Quiet

abbrev pub declares : Declaration → Told → Rule
declares told (Holds reached) = declared_by told reached
declares told (Implementing x) = done Quiet
declares told (Selecting x) = done Quiet
declares told (Listing x) = done Quiet
declares told (DeclaringTold x) = done Quiet

-- ---- in code

abbrev pub declaration_in : State → TypeId → List Method → Declaration
declaration_in s under methods = declaration_of (types_in s.table) (record { under = under; methods = methods })

abbrev pub declaring_in : State → Declaring → Outcome Item Meaning Question Told Meaning
declaring_in s d.Nothing = Says Quiet
declaring_in s (d.Waits item) = Waits item
declaring_in s (d.With of under methods) = Puts (IsComparable (type_in s under)) (declares (declaration_in s under methods.items))

-- this item declares this defined type with an underlying type and methods of the table
pub record IsDeclaration (u : Unit) (s : State) (i : Item) (of under : TypeId) (methods : List Method) : Type 0 where
  pub name : TypeName
  pub within : IsTypeOf s of
  pub named : type_in s of ≡ DefinedType name
  pub own : IsItemOf (type_item u) name i
  pub base : base_of u name ≡ None
  pub under_within : IsTypeOf s under
  pub plain : is_defined (type_in s under) ≡ false
  pub below : MethodsBelow (count s.table) methods

abbrev pub IsDeclaringAt : Unit → State → Item → Declaring → Type 0
IsDeclaringAt u s i d.Nothing = Prim.Unit {0}
IsDeclaringAt u s i (d.Waits item) = Prim.Unit {0}
IsDeclaringAt u s i (d.With of under methods) = IsDeclaration u s i of under methods.items

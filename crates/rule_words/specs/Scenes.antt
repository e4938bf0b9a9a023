-- A package that has been read, with its marks so far; and what code finds there, with types themselves in place of their numbers.
use Rattle.std.specs.Option.{option_map_or}
use Rattle.std.specs.Prelude.{◌≡◌, ◌<◌, ℕ, List, length, map, option_map, Option, Some, None, IfSome, slice_get}
use Rattle.type_model.specs.declared.term.TypeId.{TypeId}
use Rattle.type_model.specs.declared.term.TypeName.{TypeName}
use Rattle.type_model.specs.Declarations.{Declaration}
use Rattle.type_model.specs.GoTypes.{GoType, type_at}
use Rattle.type_model.specs.declared.table.TypeTable.{TypeTable}
use Rattle.type_model.specs.Tables.{types_in, terms_in, count, declarations_in, Extends}
use Rattle.typed_tree.specs.Basics.{HasBasics}
use Rattle.mark_walk.specs.Telling.{Outcome, Says, Waits, Glimpse, Answered, Pending, Open, Sight}
use Rattle.typed_marks.specs.declared.item.Item.{Item}
use Rattle.typed_marks.specs.Items.{nowhere}
use Rattle.typed_marks.specs.declared.mark.Mark.{Mark}
use Rattle.typed_marks.specs.declared.state.State.{State}
use Rattle.typed_marks.specs.Meanings.{Meaning, mark_in, IsMarkIn}
use Rattle.typed_marks.specs.States.{IsState, so_far}
use Rattle.type_questions.specs.declared.reached.Found.{Found}
use Rattle.type_questions.specs.declared.reached.Found.TheVariants as f
use Rattle.type_questions.specs.Questions.{Question, AssignableTo, ConvertibleTo, IsComparable, MissingMethod, FieldOrMethod, MethodSet, DeclaredAs, Told, Declaring}
use Rattle.type_questions.specs.Over.{declared}
use Rattle.unit_read.specs.declared.subject.Subject.{Subject}
use Rattle.unit_read.specs.Passages.{passages}
use Rattle.unit_read.specs.Units.{base_of}
use Rattle.unit_read.specs.Subjects.{full_of, unit_of, IsRead}
use Rattle.rule_words.specs.declared.seen.Seen.{Seen}
use Rattle.rule_words.specs.Parts.{Part}
use Rattle.rule_words.specs.Asking.{type_item, declaration_told}

-- The package has been read, there is a block for each of its passages, the types by whose numbers the environment says what packages export stand in the
-- table under these, and the table declares what is declared from the start and by the marks so far.
pub record IsScene (u : Subject) (s : State) : Type 0 where
  pub read : IsRead u
  pub state : IsState s
  pub blocks : length s.blocks.items ≡ length (passages (unit_of u).trees)
  pub basics : HasBasics s.table
  pub env : Extends u.env.now.types.now (terms_in s.table)
  pub step : (name : TypeName) → declarations_in s.table name ≡ declared (base_of (full_of u)) (type_item (unit_of u)) declaration_told (so_far s) name

-- ---- what is seen at once

-- A table tells what names are declared with, and that the others are not. What a name is declared with that isn't waits for what is nowhere.
abbrev pub known_in : State → Question → Glimpse Item Told
known_in s (AssignableTo q) = Open
known_in s (ConvertibleTo q) = Open
known_in s (IsComparable of) = Open
known_in s (MissingMethod q) = Open
known_in s (FieldOrMethod q) = Open
known_in s (MethodSet of) = Open
known_in s (DeclaredAs name) = option_map_or (λ (d : Declaration). Answered (Declaring d)) (declarations_in s.table name) (Pending (nowhere s.blocks.items))

-- the marks so far, and what the table tells
abbrev pub sight : State → Sight Item Meaning Question Told
sight s = record { marks = so_far s; known = known_in s }

-- ---- what is found

abbrev pub told_by : {T R : Type 0} → (T → R) → Found T Item → Outcome Item Meaning Question Told R
told_by told (f.Is x) = Says (told x)
told_by told (f.Wait i) = Waits i

abbrev pub IfFound : {T : Type 0} → Found T Item → (T → Type 0) → Type 0
IfFound (f.Is x) P = P x
IfFound (f.Wait i) P = Unit {0}

abbrev pub said : State → Mark → Meaning
said s m = mark_in s.table s.constants.items m

abbrev pub IsMarkOf : State → Mark → Type 0
IsMarkOf s m = IsMarkIn s.table s.constants.items m

abbrev pub type_in : State → TypeId → GoType
type_in s id = type_at (types_in s.table) id

abbrev pub IsTypeOf : State → TypeId → Type 0
IsTypeOf s id = id.0 < count s.table

abbrev pub MayBeTypeOf : State → Option TypeId → Type 0
MayBeTypeOf s o = IfSome o (IsTypeOf s)

abbrev pub part_in : State → Seen → Part
part_in s p = record { mark = said s p.mark; under = option_map (type_in s) p.under }

pub record IsSeenOf (s : State) (p : Seen) : Type 0 where
  pub mark : IsMarkOf s p.mark
  pub under : MayBeTypeOf s p.under

abbrev pub parts_in : State → List Seen → List Part
parts_in s parts = map (part_in s) parts

abbrev pub AreSeenOf : State → List Seen → Type 0
AreSeenOf s parts = (i : ℕ) (p : Seen) → slice_get parts i ≡ Some p → IsSeenOf s p

-- What is answered to questions about types, over a package and its marks so far.
use Rattle.mark_walk.specs.Asks.{Lasting}
use Rattle.std.specs.Global.{Vec}
use Rattle.std.specs.Prelude.{◌<◌, List, Option}
use Rattle.method_sets.specs.Levels.{chosen_in}
use Rattle.method_sets.specs.Replies.{listed_in}
use Rattle.method_sets.specs.declared.selection.Selected.{Selected}
use Rattle.method_sets.specs.declared.selection.Selected.TheVariants as selected
use Rattle.method_sets.specs.declared.selection.Selection.{Selection}
use Rattle.method_sets.specs.declared.selection.Selection.TheVariants as selection
use Rattle.type_model.specs.declared.table.TypeTable.{TypeTable}
use Rattle.type_model.specs.declared.term.Method.{Method}
use Rattle.type_model.specs.declared.term.TypeId.{TypeId}
use Rattle.type_model.specs.GoTypes.{methods_of, SignatureBelow}
use Rattle.type_model.specs.Parts.{GoMethod}
use Rattle.type_model.specs.Tables.{types_in, count}
use Rattle.type_questions.specs.declared.reached.Reached.{Reached}
use Rattle.type_questions.specs.declared.reached.Found.{Found}
use Rattle.type_questions.specs.declared.reached.Found.TheVariants as f
use Rattle.type_questions.specs.declared.reached.Reached.TheVariants.{Got, Lost}
use Rattle.type_questions.specs.Questions.{Question, Told, Listing, Selecting, says, pends, IsFound}
use Rattle.type_questions.specs.Judging.{seen_as, AreMethodsBelow}
use Rattle.type_questions.proofs.QuestionLaws.{questions_last}
use Rattle.typed_marks.specs.declared.item.Item.{Item}
use Rattle.typed_marks.specs.declared.state.State.{State}
use Rattle.typed_marks.specs.declared.mark.ConstId.{ConstId}
use Rattle.typed_marks.specs.Meanings.{Meaning, constant_at}
use Rattle.typed_marks.specs.States.{so_far}
use Rattle.unit_read.specs.declared.subject.Subject.{Subject}
use Rattle.unit_read.specs.Imports.{bare}
use Rattle.unit_read.specs.Subjects.{full_of, unit_of}
use Rattle.unit_read.specs.Units.{Unit, base_of}
use Rattle.rule_words.specs.Asking.{declarer, declaration_told}
use Rattle.rule_words.specs.Scenes.{type_in}
use Rattle.type_answers.specs.declared.relations.Relation.{Relation}
use Rattle.type_answers.specs.Asked.{relating}

-- the answers to questions, over what is declared from the start and what the marks declare
abbrev pub says_of : Unit → (Item → Option Meaning) → Question → Told → Type 0
says_of u so_far q told = says (base_of u) (declarer (bare u)) declaration_told so_far q told

-- the items for which a question waits
abbrev pub pends_of : Unit → (Item → Option Meaning) → Question → Item → Type 0
pends_of u so_far q i = pends (base_of u) (declarer (bare u)) declaration_told so_far q i

pub answers_last : (u : Unit) → Lasting (says_of u) (pends_of u)
answers_last u = questions_last (base_of u) (declarer (bare u)) declaration_told

-- an answer that a question has over the marks so far, told as `into` says; or an item for which it waits
abbrev pub IsAnswered : {A : Type 0} → Subject → State → Question → (Reached A → Told) → Found (Reached A) Item → Type 0
IsAnswered u s q into found = IsFound (base_of (full_of u)) (declarer (unit_of u)) declaration_told (so_far s) q into found

-- ---- over tables

-- the question whether an operand with these methods is so related to a type
abbrev pub relate_by : State → Relation → TypeId → Option ConstId → List Method → TypeId → Question
relate_by s relation of value methods to = relating relation (type_in s of) (constant_at s.constants.items value) (type_in s to) (methods_of (types_in s.table) methods)

-- methods that were told are over the table
abbrev pub AreListedBelow : TypeTable → Reached (Vec Method) → Type 0
AreListedBelow t reached = AreMethodsBelow {I = Item} t (f.Is reached)

-- what a list of methods stands for
abbrev pub listed_methods : State → Reached (Vec Method) → Reached (List GoMethod)
listed_methods s reached = seen_as (λ (methods : Vec Method). listed_in s.table methods.items) reached

abbrev pub listed_told : State → Reached (Vec Method) → Told
listed_told s reached = Listing (listed_methods s reached)

abbrev pub selection_told : State → Reached Selection → Told
selection_told s reached = Selecting (seen_as (chosen_in s.table) reached)

-- the types of a selection stand in the table
abbrev pub IsSelectedBelow : TypeTable → Selected → Type 0
IsSelectedBelow t (selected.Field of) = of.0 < count t
IsSelectedBelow t (selected.Method of pointer) = SignatureBelow (count t) of

abbrev pub IsSelectionBelow : TypeTable → Selection → Type 0
IsSelectionBelow t (selection.Found path kind) = IsSelectedBelow t kind
IsSelectionBelow t (selection.Ambiguous depth) = Prim.Unit {0}
IsSelectionBelow t selection.Absent = Prim.Unit {0}

abbrev pub AreSelectedBelow : TypeTable → Found (Reached Selection) Item → Type 0
AreSelectedBelow t (f.Is (Got given)) = IsSelectionBelow t given
AreSelectedBelow t (f.Is Lost) = Prim.Unit {0}
AreSelectedBelow t (f.Wait item) = Prim.Unit {0}

-- What is declared by nothing, or waits: what is known of a name that isn't declared; and that what a table tells is so.
use Rattle.std.proofs.Common.{IfSome, MatchOption, ◌≡◌, Option, Some, None, refl, sym, ap, ◌∙◌, subst}
use Rattle.std.specs.Option.{option_or, option_map_or}
use Rattle.mark_walk.specs.Telling.{IsTrueSight, Answered, Pending}
use Rattle.type_model.specs.declared.term.TypeName.{TypeName}
use Rattle.type_model.specs.declared.term.TypeId.{TypeId}
use Rattle.type_model.specs.declared.table.TypeTable.{TypeTable}
use Rattle.type_model.specs.GoTypes.{DefinedType, type_at}
use Rattle.type_model.specs.Declarations.{Declaration, Declarations}
use Rattle.type_model.specs.Tables.{types_in, declarations_in}
use Rattle.type_questions.specs.Judging.{IsInStep, RestsOn, RestsOnNothing}
use Rattle.type_questions.specs.Over.{declared, IsOfNothing}
use Rattle.type_questions.specs.Questions.{Question, AssignableTo, ConvertibleTo, IsComparable, MissingMethod, FieldOrMethod, MethodSet, DeclaredAs, Told, Declaring}
use Rattle.typed_marks.specs.declared.item.Item.{Item}
use Rattle.typed_marks.specs.Items.{nowhere}
use Rattle.typed_marks.specs.declared.state.State.{State}
use Rattle.typed_marks.specs.Meanings.{Meaning}
use Rattle.typed_marks.specs.States.{so_far}
use Rattle.unit_read.specs.declared.subject.Subject.{Subject}
use Rattle.unit_read.specs.Subjects.{full_of, unit_of}
use Rattle.unit_read.specs.Units.{Unit, base_of}
use Rattle.rule_words.specs.Asking.{type_item, item_for, declarer, declaration_told}
use Rattle.rule_words.specs.Scenes.{IsScene, known_in, sight}
use Rattle.rule_words.proofs.SceneLemmas.{nowhere_free, nowhere_none, declarer_same}
use Rattle.type_answers.specs.Answering.{says_of, pends_of}
use Rattle.type_answers.specs.Coming.{says_at, pends_at}

-- a name that isn't declared, and whose item has a mark
pub of_nothing : (base : Declarations) (under : TypeName → Option Item) (so_far : Item → Option Meaning) (name : TypeName) (i : Item) → under name ≡ Some i
    → declared base under declaration_told so_far name ≡ None → (so_far i ≡ None → ⊥) → IsOfNothing under declaration_told so_far name
of_nothing base under so_far name i at none marked = by (so_far i) refl where
  told : (b : Option Declaration) (m : Meaning) → option_or b (declaration_told m) ≡ None → declaration_told m ≡ None
  told None m e = e
  told (Some d) m e = absurd cc

  rest : (m : Meaning) → so_far i ≡ Some m → option_or (base name) (declaration_told m) ≡ None
  rest m e =
      sym (ap (λ (o : Option Item). option_or (base name) (option_map_or declaration_told (option_map_or so_far o None) None)) at
      ∙ ap (λ (o : Option Meaning). option_or (base name) (option_map_or declaration_told o None)) e) ∙ none

  by : (o : Option Meaning) → so_far i ≡ o → IsOfNothing under declaration_told so_far name
  by None e = absurd (marked e)
  by (Some m) e = (i, m, at, e, told (base name) m (rest m e))

pub pending_found : (base : Declarations) (u : Unit) (so_far : Item → Option Meaning) (t : TypeTable) (of : TypeId) (result : Option Item)
    → IfSome result (λ i. so_far i ≡ None)
    → ((name : TypeName) → type_at (types_in t) of ≡ DefinedType name → IfSome result (λ i. item_for u name ≡ i))
    → ((name : TypeName) → type_at (types_in t) of ≡ DefinedType name → result ≡ None → so_far (item_for u name) ≡ None → ⊥)
    → MatchOption result (RestsOnNothing t base (declarer u) declaration_told so_far of) (λ i. RestsOn t base (declarer u) declaration_told so_far of i)
pending_found base u so_far t of None waits is none = λ name named undeclared. of_nothing base (declarer u) so_far name (item_for u name) refl undeclared (none name named refl)
pending_found base u so_far t of (Some i) waits is none = λ name named undeclared. (ap Some (is name named), waits)

-- a table tells what is declared
pub declared_told : (u : Subject) (s : State) → IsScene u s → (name : TypeName)
    → declared (base_of (full_of u)) (declarer (unit_of u)) declaration_told (so_far s) name ≡ declarations_in s.table name
declared_told u s scene name = declarer_same (base_of (full_of u)) (unit_of u) (so_far s) (nowhere_none u s scene) name ∙ sym (scene.step name)

-- a table that declares what the marks do is in step with them
pub in_step : (u : Subject) (s : State) → IsScene u s → IsInStep s.table (base_of (full_of u)) (declarer (unit_of u)) declaration_told (so_far s)
in_step u s scene = record {
  grows = λ name d is. declared_told u s scene name ∙ is;
  told = λ id name low named none. declared_told u s scene name ∙ none;
}

base_none : (b m : Option Declaration) → option_or b m ≡ None → b ≡ None
base_none None m e = refl
base_none (Some d) m e = absurd cc

-- what the table tells of questions is so
pub true_sight : (u : Subject) (s : State) → IsScene u s → IsTrueSight (says_at u) (pends_at u) (sight s)
unfolding says_at pends_at
true_sight u s scene = record { answers = answers; waits = waits } where
  answers : (q : Question) (a : Told) → known_in s q ≡ Answered a → says_of (full_of u) (so_far s) q a
  answers (AssignableTo q) a is = absurd cc
  answers (ConvertibleTo q) a is = absurd cc
  answers (IsComparable of) a is = absurd cc
  answers (MissingMethod q) a is = absurd cc
  answers (FieldOrMethod q) a is = absurd cc
  answers (MethodSet of) a is = absurd cc
  answers (DeclaredAs name) a is = by (declarations_in s.table name) refl is where
    by : (o : Option Declaration) → declarations_in s.table name ≡ o → option_map_or (λ (d : Declaration). Answered (Declaring d)) o (Pending (nowhere s.blocks.items)) ≡ Answered a
        → (d : Declaration) × (a ≡ Declaring d) × (declared (base_of (full_of u)) (declarer (unit_of u)) declaration_told (so_far s) name ≡ Some d)
    by None at e = absurd cc
    by (Some d) at e = let told : Declaring d ≡ a = cc in (d, sym told, declared_told u s scene name ∙ at)

  waits : (q : Question) (i : Item) → known_in s q ≡ Pending i → pends_of (full_of u) (so_far s) q i
  waits (AssignableTo q) i is = absurd cc
  waits (ConvertibleTo q) i is = absurd cc
  waits (IsComparable of) i is = absurd cc
  waits (MissingMethod q) i is = absurd cc
  waits (FieldOrMethod q) i is = absurd cc
  waits (MethodSet of) i is = absurd cc
  waits (DeclaredAs name) i is = by (declarations_in s.table name) refl is where
    by : (o : Option Declaration) → declarations_in s.table name ≡ o → option_map_or (λ (d : Declaration). Answered (Declaring d)) o (Pending (nowhere s.blocks.items)) ≡ Pending i
        → (base_of (full_of u) name ≡ None) × (so_far s i ≡ None)
    by None at e =
        let there : nowhere s.blocks.items ≡ i = cc in (
          base_none (base_of (full_of u) name) (option_map_or declaration_told (option_map_or (so_far s) (type_item (unit_of u) name) None) None) (sym (scene.step name) ∙ at),
          subst (λ (j : Item). so_far s j ≡ None) there (nowhere_free s),
        )
    by (Some d) at e = absurd cc

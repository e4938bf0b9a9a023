-- Answers to questions, as what rules ask for.
use Rattle.std.proofs.Common.{◌≡◌, Bool, List, [], ◌∷◌, map, refl, sym, ap, subst, inl, inr}
use Rattle.std.specs.Global.{Vec}
use Rattle.mark_walk.specs.Asks.{done, put}
use Rattle.method_sets.specs.Levels.{chosen_in, select_of}
use Rattle.method_sets.specs.Replies.{listed_in}
use Rattle.method_sets.specs.declared.selection.Selection.{Selection}
use Rattle.rel_growth.specs.Implement.{implement_of}
use Rattle.type_model.specs.declared.term.Method.{Method}
use Rattle.type_model.specs.declared.term.TypeId.{TypeId}
use Rattle.type_model.specs.GoTypes.{GoType, GoMethods, AndMethod, NoMethod, signature_of, methods_of}
use Rattle.type_model.specs.Parts.{GoMethod, method_of}
use Rattle.type_model.specs.Tables.{types_in}
use Rattle.type_rel.specs.declared.answer.Implements.{Implements}
use Rattle.type_questions.specs.declared.reached.Reached.{Reached}
use Rattle.type_questions.specs.declared.reached.Found.{Found}
use Rattle.type_questions.specs.declared.reached.Found.TheVariants as f
use Rattle.type_questions.specs.Judging.{seen_as}
use Rattle.type_questions.specs.Questions.{Question, MethodSet, MissingMethod, FieldOrMethod, Told, Holds, Implementing, Selecting, Listing}
use Rattle.typed_marks.specs.declared.item.Item.{Item}
use Rattle.typed_marks.specs.declared.state.State.{State}
use Rattle.unit_read.specs.declared.subject.Subject.{Subject}
use Rattle.rule_words.specs.Putting.{methods_from}
use Rattle.rule_words.specs.Scenes.{type_in}
use Rattle.type_answers.specs.Answering.{IsAnswered, listed_methods, listed_told, selection_told}
use Rattle.type_answers.specs.Asked.{bool_ask, methods_ask, select_ask, missing_ask}
use Rattle.type_answers.specs.Coming.{says_at, pends_at, FoundBy}

pub bool_found : (u : Subject) (s : State) (q : Question) (found : Found (Reached Bool) Item) → IsAnswered u s q Holds found → FoundBy u s (λ (x : Reached Bool). x) (bool_ask q) found
unfolding says_at pends_at
bool_found u s q (f.Is x) says = (Holds x, says, refl)
bool_found u s q (f.Wait i) pends = inl pends

pub methods_found : (u : Subject) (s : State) (of : GoType) (found : Found (Reached (Vec Method)) Item) → IsAnswered u s (MethodSet of) (listed_told s) found
    → FoundBy u s (listed_methods s) (methods_ask of) found
unfolding methods_ask says_at pends_at
methods_found u s of (f.Is x) says = (listed_told s x, says, refl)
methods_found u s of (f.Wait i) pends = inl pends

pub selection_found : (u : Subject) (s : State) (of : TypeId) (name from : List _) (found : Found (Reached Selection) Item)
    → IsAnswered u s (FieldOrMethod (select_of s.table of name from)) (selection_told s) found
    → FoundBy u s (seen_as (chosen_in s.table)) (select_ask (type_in s of) (select_of s.table of name from).name) found
unfolding select_ask says_at pends_at
selection_found u s of name from (f.Is x) says = (selection_told s x, says, refl)
selection_found u s of name from (f.Wait i) pends = inl pends

-- methods of a table, as they are asked about
pub methods_same : (types : List GoType) (list : List Method) → methods_from (map (λ m. method_of types m) list) ≡ methods_of types list
methods_same types [] = refl
methods_same types (m ∷ list) = ap (λ ms. AndMethod m.name m.package m.pointer (signature_of types m.of) ms) (methods_same types list)

pub related_found : (u : Subject) (s : State) (q : GoMethods → Question) (list : List Method) (found : Found (Reached Bool) Item)
    → IsAnswered u s (q (methods_of (types_in s.table) list)) Holds found → FoundBy u s (λ (x : Reached Bool). x) (bool_ask (q (methods_from (listed_in s.table list)))) found
related_found u s q list found is =
    subst (λ (set : GoMethods). FoundBy u s (λ (x : Reached Bool). x) (bool_ask (q set)) found) (sym (methods_same (types_in s.table) list))
    (bool_found u s (q (methods_of (types_in s.table) list)) found is)

missing_of : (u : Subject) (s : State) (set : GoMethods) (of : GoType) (found : Found (Reached Implements) Item)
    → IsAnswered u s (MissingMethod (record { set = set; of = of })) Implementing found → FoundBy u s (λ (x : Reached Implements). x) (missing_ask set of) found
unfolding says_at pends_at
missing_of u s set of (f.Is x) says = (Implementing x, says, refl)
missing_of u s set of (f.Wait i) pends = inl pends

pub missing_found : (u : Subject) (s : State) (list : List Method) (of : TypeId) (found : Found (Reached Implements) Item)
    → IsAnswered u s (MissingMethod (implement_of s.table list of)) Implementing found
    → FoundBy u s (λ (x : Reached Implements). x) (missing_ask (methods_from (listed_in s.table list)) (type_in s of)) found
missing_found u s list of found is =
    subst (λ (set : GoMethods). FoundBy u s (λ (x : Reached Implements). x) (missing_ask set (type_in s of)) found) (sym (methods_same (types_in s.table) list))
    (missing_of u s (methods_of (types_in s.table) list) (type_in s of) found is)

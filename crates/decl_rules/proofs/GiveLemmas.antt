-- Methods that are asked for one after the other.
use Rattle.std.proofs.Common.{◌≡◌, ℕ, ◌+◌, ◌≤◌, ◌||◌, Bool, true, false, if◌then◌else◌, subst, List, [], ◌∷◌, ◌++◌, length, drop, slice_get, Option, Some, None, refl, sym, ap, ◌∙◌, append_assoc}
use Rattle.std.specs.Option.{option_map_or}
use Rattle.mark_walk.specs.Asks.{done, bind}
use Rattle.mark_walk.specs.Telling.{Says, Waits, tell, Sight}
use Rattle.mark_walk.proofs.TellLaws.{told_bind}
use Rattle.type_model.specs.declared.term.Field.{Field}
use Rattle.type_model.specs.GoTypes.{GoType, fields_of}
use Rattle.type_model.specs.Parts.{GoMethod}
use Rattle.type_questions.specs.Questions.{Question, Told}
use Rattle.typed_marks.specs.declared.item.Item.{Item}
use Rattle.typed_marks.specs.Meanings.{Meaning}
use Rattle.rule_words.specs.Asking.{Asks, Rule, ask_each}
use Rattle.rule_words.proofs.PartLemmas.{Rests, rests_first, rests_more, rests_end, rests_wait}
use Rattle.decl_rules.specs.Methods.{same_name, is_field_of, all_of, Gives, GivesAll}
use Rattle.type_rules.proofs.ListLemmas.{nil_last, dropped_at, dropped_all}

-- ---- fields

module _ (name owner : List ℕ) (types : List GoType) (fields : List Field) where
  pub field_on : (i : ℕ) (f : Field) → slice_get fields i ≡ Some f → same_name name owner f.name f.«package» ≡ false
      → is_field_of name owner (fields_of types (drop i fields)) ≡ is_field_of name owner (fields_of types (drop (i + 1) fields))
  field_on i f at not = ap (λ l. is_field_of name owner (fields_of types l)) (dropped_at fields i f at)
      ∙ ap (λ b. b || is_field_of name owner (fields_of types (drop (i + 1) fields))) not

  pub field_here : (i : ℕ) (f : Field) → slice_get fields i ≡ Some f → same_name name owner f.name f.«package» ≡ true
      → is_field_of name owner (fields_of types (drop i fields)) ≡ true
  field_here i f at is = ap (λ l. is_field_of name owner (fields_of types l)) (dropped_at fields i f at)
      ∙ ap (λ b. b || is_field_of name owner (fields_of types (drop (i + 1) fields))) is

  pub field_nowhere : (i : ℕ) → length fields ≤ i → is_field_of name owner (fields_of types (drop i fields)) ≡ false
  field_nowhere i low = ap (λ l. is_field_of name owner (fields_of types l)) (dropped_all fields i low)

-- ---- methods

pub gives_nothing : (sight : Sight Item Meaning Question Told) (list : List GoMethod) → Gives sight (done []) list list None
gives_nothing sight list = ([], refl, sym (nil_last list))

pub gives_absent : {X : Type 0} (sight : Sight Item Meaning Question Told) (f : X → Asks (List GoMethod)) (o : Option X) (list : List GoMethod) → o ≡ None
    → Gives sight (option_map_or f o (done [])) list list None
gives_absent {X} sight f o list none = subst (λ (x : Option X). Gives sight (option_map_or f x (done [])) list list None) (sym none) (gives_nothing sight list)

pub gives_left : (sight : Sight Item Meaning Question Told) (b : Bool) (asked : Asks (List GoMethod)) (list : List GoMethod) → b ≡ true → Gives sight (if b then done [] else asked) list list None
gives_left sight b asked list is = subst (λ (x : Bool). Gives sight (if x then done [] else asked) list list None) (sym is) (gives_nothing sight list)

pub gives_kept : (sight : Sight Item Meaning Question Told) (b : Bool) (asked : Asks (List GoMethod)) (old new : List GoMethod) (o : Option Item) → b ≡ false → Gives sight asked old new o
    → Gives sight (if b then done [] else asked) old new o
gives_kept sight b asked old new o not gives = subst (λ (x : Bool). Gives sight (if x then done [] else asked) old new o) (sym not) gives

pub gives_told : (sight : Sight Item Meaning Question Told) (asked : Rule) (rest : Meaning → Asks (List GoMethod)) (m : Meaning) (xs old new : List GoMethod)
    → tell sight asked ≡ Says m → tell sight (rest m) ≡ Says xs → new ≡ old ++ xs → Gives sight (bind asked rest) old new None
gives_told sight asked rest m xs old new e told is = (xs, told_bind sight asked rest (Says m) e ∙ told, is)

pub gives_bind : (sight : Sight Item Meaning Question Told) (asked : Rule) (rest : Meaning → Asks (List GoMethod)) (m : Meaning) (old new : List GoMethod) (o : Option Item)
    → tell sight asked ≡ Says m → Gives sight (rest m) old new o → Gives sight (bind asked rest) old new o
gives_bind sight asked rest m old new None e (xs, told, is) = (xs, told_bind sight asked rest (Says m) e ∙ told, is)
gives_bind sight asked rest m old new (Some item) e told = told_bind sight asked rest (Says m) e ∙ told

pub gives_wait : (sight : Sight Item Meaning Question Told) (asked : Rule) (rest : Meaning → Asks (List GoMethod)) (item : Item) (old new : List GoMethod)
    → tell sight asked ≡ Waits item → Gives sight (bind asked rest) old new (Some item)
gives_wait sight asked rest item old new e = told_bind sight asked rest (Waits item) e

pub all_last : {X : Type 0} (front : List (List X)) (xs : List X) → all_of (front ++ xs ∷ []) ≡ all_of front ++ xs
all_last [] xs = nil_last xs
all_last (ys ∷ front) xs = ap (λ l. ys ++ l) (all_last front xs) ∙ sym (append_assoc ys (all_of front) xs)

-- what the first few gave, when the rest is asked for
pub record Gathered {X : Type 0} (sight : Sight Item Meaning Question Told) (f : X → Asks (List GoMethod)) (list : List X) (i : ℕ) (out : List GoMethod) : Type 0 where
  pub front : List (List GoMethod)
  pub rests : Rests sight f list i front
  pub are : out ≡ all_of front

pub gathered_first : {X : Type 0} (sight : Sight Item Meaning Question Told) (f : X → Asks (List GoMethod)) (list : List X) (out : List GoMethod) → out ≡ [] → Gathered sight f list 0 out
gathered_first sight f list out bare = record { front = []; rests = rests_first sight f list; are = bare }

pub gathered_more : {X : Type 0} (sight : Sight Item Meaning Question Told) (f : X → Asks (List GoMethod)) (list : List X) (i : ℕ) (x : X) (old new : List GoMethod) (o : Option Item) → slice_get list i ≡ Some x
    → o ≡ None → Gives sight (f x) old new o → Gathered sight f list i old → Gathered sight f list (i + 1) new
gathered_more sight f list i x old new None at none (xs, told, is) g = record {
  front = g.front ++ xs ∷ [];
  rests = rests_more sight f list i g.front x xs at told g.rests;
  are = is ∙ (ap (λ l. l ++ xs) g.are ∙ sym (all_last g.front xs));
}
gathered_more sight f list i x old new (Some item) at none gives g = absurd (cc)

pub gathered_wait : {X : Type 0} (sight : Sight Item Meaning Question Told) (f : X → Asks (List GoMethod)) (list : List X) (i : ℕ) (x : X) (old new out : List GoMethod) (o : Option Item) (item : Item) → slice_get list i ≡ Some x
    → o ≡ Some item → Gives sight (f x) old new o → Gathered sight f list i out → tell sight (ask_each f list) ≡ Waits item
gathered_wait sight f list i x old new out None item at some gives g = absurd (cc)
gathered_wait sight f list i x old new out (Some other) item at some gives g =
    let same : other ≡ item = cc in sym (rests_wait sight f list i g.front x item at (gives ∙ ap Waits same) g.rests)

pub gathered_all : {X : Type 0} (sight : Sight Item Meaning Question Told) (f : X → Asks (List GoMethod)) (list : List X) (i : ℕ) (out : List GoMethod) → length list ≤ i → Gathered sight f list i out
    → GivesAll sight (ask_each f list) out None
gathered_all sight f list i out low g = (g.front, sym (rests_end sight f list i g.front low g.rests), g.are)

-- ---- what goes on with all methods

pub told_all : (sight : Sight Item Meaning Question Told) (asked : Asks (List (List GoMethod))) (rest : List GoMethod → Rule) (list : List GoMethod) (o : Option Item) → o ≡ None → GivesAll sight asked list o
    → tell sight (rest list) ≡ tell sight (bind asked (λ xss. rest (all_of xss)))
told_all sight asked rest list None none (xss, told, is) = ap (λ l. tell sight (rest l)) is ∙ sym (told_bind sight asked (λ xss. rest (all_of xss)) (Says xss) told)
told_all sight asked rest list (Some item) none gives = absurd (cc)

pub waits_all : (sight : Sight Item Meaning Question Told) (asked : Asks (List (List GoMethod))) (rest : List (List GoMethod) → Rule) (list : List GoMethod) (o : Option Item) (item : Item) → o ≡ Some item
    → GivesAll sight asked list o → Waits item ≡ tell sight (bind asked rest)
waits_all sight asked rest list None item some gives = absurd (cc)
waits_all sight asked rest list (Some other) item some told =
    let same : other ≡ item = cc in sym (told_bind sight asked rest (Waits item) (told ∙ ap Waits same))

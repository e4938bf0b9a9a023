-- The way through embedded fields, one after the other.
use Rattle.std.proofs.Common.{◌≡◌, ℕ, zero, suc, ◌+◌, ◌<◌, ◌≤◌, Bool, false, List, [], ◌∷◌, drop, length, slice_get, Option, Some, None, option_map, IfSome, refl, sym, ap, ◌∙◌, subst, arith}
use Rattle.std.proofs.lemmas.List.Elements.{All-head, All-tail}
use Rattle.type_model.specs.declared.term.Field.{Field}
use Rattle.type_model.specs.declared.term.TypeId.{TypeId}
use Rattle.type_model.specs.GoTypes.{GoType, type_at, fields_of, FieldsBelow}
use Rattle.type_model.specs.Parts.{GoField, field_list}
use Rattle.type_questions.specs.declared.reached.Found.{Found}
use Rattle.type_questions.specs.declared.reached.Found.TheVariants as f
use Rattle.typed_marks.specs.declared.item.Item.{Item}
use Rattle.typed_marks.specs.declared.state.State.{State}
use Rattle.unit_read.specs.declared.subject.Subject.{Subject}
use Rattle.unit_read.specs.Subjects.{unit_of}
use Rattle.rule_words.specs.Scenes.{type_in, IsTypeOf}
use Rattle.type_answers.specs.Coming.{GivesAt, AwaitsAt, FoundBy}
use Rattle.type_answers.proofs.ComingLaws.{bind_found, bind_waits}
use Rattle.primary_rules.proofs.ListLemmas.{drop_at, drop_end}
use Rattle.primary_rules.specs.Selecting.{Passed, LeadsTo, pass_ask, passes_on, passes_ask}

-- ---- fields

pub field_at : (types : List GoType) (fields : List Field) (k : ℕ)
    → option_map (λ (g : GoField). g.of) (slice_get (field_list (fields_of types fields)) k) ≡ option_map (λ (x : Field). type_at types x.of) (slice_get fields k)
field_at types [] k = refl
field_at types (x ∷ fields) zero = refl
field_at types (x ∷ fields) (suc k) = field_at types fields k

pub field_below : (n m : ℕ) (fields : List Field) (k : ℕ) (x : Field) → slice_get fields k ≡ Some x → FieldsBelow n fields → n < m → x.of.0 < m
field_below n m [] k x is all low = absurd cc
field_below n m (y ∷ fields) zero x is all low =
    let same : y ≡ x = cc in
    let first : y.of.0 < n = All-head (λ (z : Field). z.of.0 < n) y fields all in
    subst (λ (z : Field). z.of.0 < m) same (omega arith)
field_below n m (y ∷ fields) (suc k) x is all low = field_below n m fields k x is (All-tail (λ (z : Field). z.of.0 < n) y fields all) low

-- ---- the way

-- from here the rest of the way leads on: what is found of it is found of all
pub record Goes (u : Subject) (s : State) (a : GoType) (path : List ℕ) (i : ℕ) (at : TypeId) : Type 0 where
  pub within : IsTypeOf s at
  pub rest : (found : Found Bool Item) → FoundBy u s (λ (b : Bool). b) (passes_ask (unit_of u) (type_in s at) (drop i path)) found
      → FoundBy u s (λ (b : Bool). b) (passes_ask (unit_of u) a path) found

module _ (u : Subject) (s : State) (a : GoType) (path : List ℕ) (i : ℕ) (at : TypeId) (goes : Goes u s a path i at) where
  -- what is found of the first step and of what follows
  ahead : (k : ℕ) (found : Found Bool Item) → slice_get path i ≡ Some k
      → FoundBy u s (λ (b : Bool). b) (passes_ask (unit_of u) (type_in s at) (k ∷ drop (i + 1) path)) found
      → FoundBy u s (λ (b : Bool). b) (passes_ask (unit_of u) a path) found
  ahead k found is here =
      goes.rest found (subst (λ (l : List ℕ). FoundBy u s (λ (b : Bool). b) (passes_ask (unit_of u) (type_in s at) l) found) (sym (drop_at path i k is)) here)

  pub goes_on : (k : ℕ) (next : TypeId) → slice_get path i ≡ Some k → IsTypeOf s next → GivesAt u s (pass_ask (unit_of u) (type_in s at) k) (LeadsTo (type_in s next))
      → Goes u s a path (i + 1) next
  goes_on k next is within gives = record {
    within = within;
    rest = λ found more. ahead k found is
        (bind_found u s (λ (b : Bool). b) (pass_ask (unit_of u) (type_in s at) k) (passes_on (λ (b : GoType). passes_ask (unit_of u) b (drop (i + 1) path))) (LeadsTo (type_in s next)) found gives more);
  }

  pub goes_passed : (k : ℕ) (b : Bool) → slice_get path i ≡ Some k → GivesAt u s (pass_ask (unit_of u) (type_in s at) k) (Passed b)
      → GivesAt u s (passes_ask (unit_of u) a path) b
  goes_passed k b is gives = ahead k (f.Is b) is
      (bind_found u s (λ (x : Bool). x) (pass_ask (unit_of u) (type_in s at) k) (passes_on (λ (x : GoType). passes_ask (unit_of u) x (drop (i + 1) path))) (Passed b) (f.Is b) gives refl)

  pub goes_waits : (k : ℕ) (item : Item) → slice_get path i ≡ Some k → AwaitsAt u s (pass_ask (unit_of u) (type_in s at) k) item
      → AwaitsAt u s (passes_ask (unit_of u) a path) item
  goes_waits k item is waits = ahead k (f.Wait item) is
      (bind_waits u s (pass_ask (unit_of u) (type_in s at) k) (passes_on (λ (x : GoType). passes_ask (unit_of u) x (drop (i + 1) path))) item waits)

  pub goes_ended : length path ≤ i → GivesAt u s (passes_ask (unit_of u) a path) false
  goes_ended low =
      goes.rest (f.Is false) (subst (λ (l : List ℕ). FoundBy u s (λ (b : Bool). b) (passes_ask (unit_of u) (type_in s at) l) (f.Is false)) (sym (drop_end path i low)) refl)

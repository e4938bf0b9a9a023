-- Values that are assigned one after the other.
use Rattle.std.proofs.Common.{◌≡◌, ℕ, zero, suc, ◌+◌, ◌≤◌, Bool, true, false, if◌then◌else◌, List, [], ◌∷◌, map, drop, length, slice_get, Option, Some, None, refl, sym, ap, ◌∙◌, subst, arith}
use Rattle.mark_walk.specs.Asks.{done, bind}
use Rattle.type_answers.specs.Asked.{assignable_ask}
use Rattle.type_answers.specs.Coming.{GivesAt, AwaitsAt}
use Rattle.type_answers.proofs.ComingLaws.{gives_bind, awaits_after, bind_waits}
use Rattle.type_model.specs.declared.term.TypeId.{TypeId}
use Rattle.type_questions.specs.declared.reached.Reached.{Reached}
use Rattle.type_questions.specs.declared.reached.Reached.TheVariants.{Got}
use Rattle.typed_marks.specs.declared.item.Item.{Item}
use Rattle.typed_marks.specs.declared.state.State.{State}
use Rattle.unit_read.specs.declared.subject.Subject.{Subject}
use Rattle.rule_words.specs.Asking.{Asks}
use Rattle.rule_words.specs.Scenes.{type_in}
use Rattle.variable_rules.specs.InCode.{types_of}
use Rattle.variable_rules.specs.Sharing.{holds, then_others, all_assigned}

drop_at : (list : List TypeId) (i : ℕ) (x : TypeId) → slice_get list i ≡ Some x → drop i list ≡ x ∷ drop (i + 1) list
drop_at [] i x is = absurd cc
drop_at (y ∷ list) zero x is = let same : y ≡ x = cc in ap (λ (z : TypeId). z ∷ list) same
drop_at (y ∷ list) (suc i) x is = let e : suc i + 1 ≡ suc (i + 1) = omega arith in rw e (drop_at list i x is)

drop_end : (list : List TypeId) (i : ℕ) → length list ≤ i → drop i list ≡ []
drop_end [] zero low = refl
drop_end [] (suc i) low = refl
drop_end (x ∷ list) zero low = absurd (omega arith)
drop_end (x ∷ list) (suc i) low = drop_end list i (omega arith)

-- what comes of the rest comes of the whole
pub record Rests (u : Subject) (s : State) (whole rest : Asks (Reached Bool)) : Type 0 where
  pub gives : (x : Reached Bool) → GivesAt u s rest x → GivesAt u s whole x
  pub awaits : (i : Item) → AwaitsAt u s rest i → AwaitsAt u s whole i

pub rests_all : (u : Subject) (s : State) (whole : Asks (Reached Bool)) → Rests u s whole whole
rests_all u s whole = record { gives = λ x is. is; awaits = λ i is. is }

-- from the value at a place on
abbrev pub from : State → Bool → TypeId → List TypeId → ℕ → Asks (Reached Bool)
from s methods to list i = all_assigned methods (type_in s to) (types_of s (drop i list))

abbrev pub ask_at : State → Bool → TypeId → TypeId → Asks (Reached Bool)
ask_at s methods of to = assignable_ask methods (type_in s of) None (type_in s to)

from_is : (s : State) (methods : Bool) (to : TypeId) (list : List TypeId) (i : ℕ) (of : TypeId) → slice_get list i ≡ Some of
    → from s methods to list i ≡ bind (ask_at s methods of to) (then_others (from s methods to list (i + 1)))
from_is s methods to list i of is = ap (λ (l : List TypeId). all_assigned methods (type_in s to) (types_of s l)) (drop_at list i of is)

module _ (u : Subject) (s : State) (methods : Bool) (to : TypeId) (list : List TypeId) (i : ℕ) (of : TypeId) (is : slice_get list i ≡ Some of) (whole : Asks (Reached Bool))
    (rests : Rests u s whole (from s methods to list i)) where
  abbrev others : Asks (Reached Bool)
  others = from s methods to list (i + 1)

  pub goes_on : (told : Reached Bool) → GivesAt u s (ask_at s methods of to) told → holds told ≡ true → Rests u s whole others
  goes_on told given yes_is = record {
    gives = λ x more. rests.gives x (subst (λ (r : Asks (Reached Bool)). GivesAt u s r x) (sym (from_is s methods to list i of is))
        (gives_bind u s (ask_at s methods of to) (then_others others) told x given (subst (λ (b : Bool). GivesAt u s (if b then others else done told) x) (sym yes_is) more)));
    awaits = λ j more. rests.awaits j (subst (λ (r : Asks (Reached Bool)). AwaitsAt u s r j) (sym (from_is s methods to list i of is))
        (awaits_after u s (ask_at s methods of to) (then_others others) told j given (subst (λ (b : Bool). AwaitsAt u s (if b then others else done told) j) (sym yes_is) more)));
  }

  pub ends : (told : Reached Bool) → GivesAt u s (ask_at s methods of to) told → holds told ≡ false → GivesAt u s whole told
  ends told given no_is =
      rests.gives told (subst (λ (r : Asks (Reached Bool)). GivesAt u s r told) (sym (from_is s methods to list i of is))
      (gives_bind u s (ask_at s methods of to) (then_others others) told told given (subst (λ (b : Bool). GivesAt u s (if b then others else done told) told) (sym no_is) refl)))

  pub stays : (j : Item) → AwaitsAt u s (ask_at s methods of to) j → AwaitsAt u s whole j
  stays j waits =
      rests.awaits j (subst (λ (r : Asks (Reached Bool)). AwaitsAt u s r j) (sym (from_is s methods to list i of is)) (bind_waits u s (ask_at s methods of to) (then_others others) j waits))

pub all_hold : (u : Subject) (s : State) (methods : Bool) (to : TypeId) (list : List TypeId) (i : ℕ) (whole : Asks (Reached Bool)) → length list ≤ i
    → Rests u s whole (from s methods to list i) → GivesAt u s whole (Got true)
all_hold u s methods to list i whole low rests =
    rests.gives (Got true) (subst (λ (l : List TypeId). GivesAt u s (all_assigned methods (type_in s to) (types_of s l)) (Got true)) (sym (drop_end list i low)) refl)

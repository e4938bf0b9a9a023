-- What is asked for one after the other, and parts that are read so.
use Rattle.std.proofs.Common.{◌≡◌, ℕ, ◌+◌, ◌<◌, ◌≤◌, zero, suc, List, [], ◌∷◌, ◌++◌, map, drop, length, slice_get, Option, Some, None, refl, sym, ap, ◌∙◌, subst, arith}
use Rattle.mark_walk.specs.Asks.{done, bind}
use Rattle.mark_walk.specs.Telling.{Outcome, Says, Waits, Sight, tell, then}
use Rattle.type_questions.specs.Questions.{Question, Told}
use Rattle.mark_walk.proofs.TellLaws.{tell_bind, told_bind}
use Rattle.typed_marks.specs.declared.item.Stage.{Stage}
use Rattle.typed_marks.specs.declared.item.Item.{Item}
use Rattle.typed_marks.specs.declared.state.State.{State}
use Rattle.typed_marks.specs.Meanings.{Meaning}
use Rattle.unit_read.specs.Units.{Unit}
use Rattle.rule_words.specs.declared.read.Read.{Read}
use Rattle.rule_words.specs.declared.seen.Seen.{Seen}
use Rattle.std.specs.Option.{option_map_or}
use Rattle.rule_words.specs.Parts.{Part, no_part, part_at}
use Rattle.rule_words.specs.Asking.{Asks, ask_each}
use Rattle.rule_words.specs.Scenes.{part_in, parts_in, IsSeenOf, AreSeenOf}

assoc : {X : Type 0} (front : List X) (x : X) (xs : List X) → (front ++ x ∷ []) ++ xs ≡ front ++ x ∷ xs
assoc [] x xs = refl
assoc (y ∷ front) x xs = ap (λ l. y ∷ l) (assoc front x xs)

nil_last : {X : Type 0} (xs : List X) → xs ++ [] ≡ xs
nil_last [] = refl
nil_last (x ∷ xs) = ap (λ l. x ∷ l) (nil_last xs)

drop_at : {X : Type 0} (list : List X) (i : ℕ) (x : X) → slice_get list i ≡ Some x → drop i list ≡ x ∷ drop (i + 1) list
drop_at [] i x is = absurd cc
drop_at (y ∷ list) zero x is = let same : y ≡ x = cc in ap (λ z. z ∷ list) same
drop_at (y ∷ list) (suc i) x is = let e : suc i + 1 ≡ suc (i + 1) = omega arith in rw e (drop_at list i x is)

drop_end : {X : Type 0} (list : List X) (i : ℕ) → length list ≤ i → drop i list ≡ []
drop_end [] zero low = refl
drop_end [] (suc i) low = refl
drop_end (x ∷ xs) zero low = absurd (omega arith)
drop_end (x ∷ xs) (suc i) low = drop_end xs i (omega arith)

module _ {X R : Type 0} (sight : Sight Item Meaning Question Told) (f : X → Asks R) where
  -- what comes of the rest, after these, comes of all
  pub record Rests (list : List X) (i : ℕ) (front : List R) : Type 0 where
    pub says : (xs : List R) → tell sight (ask_each f (drop i list)) ≡ Says xs → tell sight (ask_each f list) ≡ Says (front ++ xs)
    pub waits : (j : Item) → tell sight (ask_each f (drop i list)) ≡ Waits j → tell sight (ask_each f list) ≡ Waits j

  pub rests_first : (list : List X) → Rests list 0 []
  rests_first list = record { says = λ xs e. e; waits = λ j e. e }

  -- once the first has been asked for
  read_first : (x : X) (list : List X) (r : R) → tell sight (f x) ≡ Says r
      → tell sight (ask_each f (x ∷ list)) ≡ then sight (tell sight (ask_each f list)) (λ xs. done (r ∷ xs))
  read_first x list r e =
      told_bind sight (f x) (λ p. bind (ask_each f list) (λ ps. done (p ∷ ps))) (Says r) e
      ∙ tell_bind sight (ask_each f list) (λ ps. done (r ∷ ps))

  pub rests_more : (list : List X) (i : ℕ) (front : List R) (x : X) (r : R) → slice_get list i ≡ Some x
      → tell sight (f x) ≡ Says r → Rests list i front → Rests list (i + 1) (front ++ r ∷ [])
  rests_more list i front x r at e rests = record {
    says = λ xs more. rests.says (r ∷ xs) (here ∙ ap (λ o. then sight o (λ ps. done (r ∷ ps))) more) ∙ ap Says (sym (assoc front r xs));
    waits = λ j more. rests.waits j (here ∙ ap (λ o. then sight o (λ ps. done (r ∷ ps))) more);
  } where
    here : tell sight (ask_each f (drop i list)) ≡ then sight (tell sight (ask_each f (drop (i + 1) list))) (λ ps. done (r ∷ ps))
    here = ap (λ l. tell sight (ask_each f l)) (drop_at list i x at) ∙ read_first x (drop (i + 1) list) r e

  pub rests_end : (list : List X) (i : ℕ) (front : List R) → length list ≤ i → Rests list i front → Says front ≡ tell sight (ask_each f list)
  rests_end list i front low rests =
      sym (rests.says [] (ap (λ l. tell sight (ask_each f l)) (drop_end list i low)) ∙ ap Says (nil_last front))

  pub rests_wait : (list : List X) (i : ℕ) (front : List R) (x : X) (j : Item) → slice_get list i ≡ Some x
      → tell sight (f x) ≡ Waits j → Rests list i front → Waits j ≡ tell sight (ask_each f list)
  rests_wait list i front x j at e rests =
      sym (rests.waits j (ap (λ l. tell sight (ask_each f l)) (drop_at list i x at)
      ∙ told_bind sight (f x) (λ p. bind (ask_each f (drop (i + 1) list)) (λ ps. done (p ∷ ps))) (Waits j) e))

pub parts_last : (s : State) (out : List Seen) (x : Seen) → parts_in s (out ++ x ∷ []) ≡ parts_in s out ++ part_in s x ∷ []
parts_last s [] x = refl
parts_last s (y ∷ out) x = ap (λ l. part_in s y ∷ l) (parts_last s out x)

pub seen_last : (s : State) (out : List Seen) (x : Seen) → AreSeenOf s out → IsSeenOf s x → AreSeenOf s (out ++ x ∷ [])
seen_last s [] x all is zero p e = let same : x ≡ p = cc in subst (IsSeenOf s) same is
seen_last s [] x all is (suc i) p e = absurd cc
seen_last s (y ∷ out) x all is zero p e = all 0 p e
seen_last s (y ∷ out) x all is (suc i) p e = seen_last s out x (λ k q at. all (suc k) q at) is i p e

-- one of the parts that were read
pub part_among : (s : State) (parts : List Seen) (i : ℕ) → part_at (parts_in s parts) i ≡ option_map_or (part_in s) (slice_get parts i) no_part
part_among s [] i = refl
part_among s (p ∷ parts) zero = refl
part_among s (p ∷ parts) (suc i) = part_among s parts i

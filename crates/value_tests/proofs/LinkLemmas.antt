-- The example of links: one step.
use Rattle.std.proofs.Common.{◌≡◌, ℕ, zero, suc, ◌<◌, ◌⊎◌, List, [], ◌∷◌, length, set, slice_get, Option, Some, None, refl, sym, ap, ◌∙◌, subst, inl, inr}
use Rattle.gv_base.proofs.Lists.{get_set_same, get_set_other, set_cases, some_once}
use Rattle.mark_walk.specs.Asks.{Gives, Awaits, Adds}
use Rattle.mark_walk.specs.Marking.{Steps}
use Rattle.value_tests.specs.Links.{AreLinks, AllBelow, link_rule, by_link, mark_at, joined}

below_at : (links : List (Option ℕ)) (n i j : ℕ) → AllBelow links n → slice_get links i ≡ Some (Some j) → j < n
below_at [] n i j all e = absurd cc
below_at (None ∷ links) n zero j all e = absurd cc
below_at (None ∷ links) n (suc i) j all e = below_at links n i j all e
below_at (Some k ∷ links) n zero j all e = let same : k ≡ j = some_once (some_once e) in subst (λ m. m < n) same all.0
below_at (Some k ∷ links) n (suc i) j all e = below_at links n i j all.1 e

module _ (links marks : List (Option ℕ)) (are : AreLinks links marks) (i : ℕ) where
  pub link_within : (o : Option ℕ) (j : ℕ) → slice_get links i ≡ Some o → o ≡ Some j → j < length links
  link_within o j e is = below_at links (length links) i j are.within (e ∙ ap Some is)

  pub link_marked : (o : Option ℕ) (j : ℕ) → slice_get links i ≡ Some o → o ≡ Some j → j < length marks
  link_marked o j e is = subst (λ n. j < n) (sym are.size) (link_within o j e is)

  module _ (low : i < length links) (unmarked : mark_at marks i ≡ None) (m : ℕ) where
    within : i < length marks
    within = subst (λ n. i < n) (sym are.size) low

    here : mark_at (set marks i (Some m)) i ≡ Some m
    here = ap joined (get_set_same marks i (Some m) within)

    at : (k n : ℕ) (o : Option (Option ℕ)) → slice_get (set marks i (Some m)) k ≡ o → joined o ≡ Some n → (k ≡ i) ⊎ (mark_at marks k ≡ Some n)
    at k n None e is = absurd cc
    at k n (Some x) e is = elim (set_cases marks i (Some m) k x e) [
      | inl (apart, old) ↦ inr (ap joined old ∙ is)
      | inr (same, new) ↦ inl same
    ]

    old_at : (k n : ℕ) → mark_at marks k ≡ Some n → mark_at (set marks i (Some m)) k ≡ Some n
    old_at k n e = ap joined (get_set_other marks i k (Some m) (λ same. absurd (let here = ap (λ x. mark_at marks x) same in cc))) ∙ e

    pub adds : Adds (mark_at marks) (mark_at (set marks i (Some m))) i m
    adds = record {
      new = here;
      stays = old_at;
      only = λ k n e. at k n (slice_get (set marks i (Some m)) k) refl e;
    }

  -- ---- what a step comes to

  abbrev pub Step : List (Option ℕ) → Option ℕ → Type 0
  Step new waits = Steps (λ so_far (q : ⊥) (x : ⊥). ⊥) (λ so_far q j. ⊥) (λ j. j < length links) (λ j. link_rule links j) (mark_at marks) (mark_at new) i waits

  pub ends_here : i < length links → mark_at marks i ≡ None → (o : Option ℕ) → slice_get links i ≡ Some o → o ≡ None → (new : List (Option ℕ)) → new ≡ set marks i (Some i) → Step new None
  ends_here low unmarked o e is new made = (
    i,
    subst (λ (r : Option (Option ℕ)). Gives (λ so_far (q : ⊥) (x : ⊥). ⊥) (mark_at marks) (by_link i r) i) (sym (e ∙ ap Some is)) refl,
    subst (λ l. Adds (mark_at marks) (mark_at l) i i) (sym made) (adds low unmarked i),
  )

  pub goes_on : i < length links → mark_at marks i ≡ None → (o : Option ℕ) (j : ℕ) → slice_get links i ≡ Some o → o ≡ Some j → (p : Option ℕ) (m : ℕ) → slice_get marks j ≡ Some p → p ≡ Some m
      → (new : List (Option ℕ)) → new ≡ set marks i (Some m) → Step new None
  goes_on low unmarked o j e is p m f has new made = (
    m,
    subst (λ (r : Option (Option ℕ)). Gives (λ so_far (q : ⊥) (x : ⊥). ⊥) (mark_at marks) (by_link i r) m) (sym (e ∙ ap Some is)) (m, ap joined f ∙ has, refl),
    subst (λ l. Adds (mark_at marks) (mark_at l) i m) (sym made) (adds low unmarked m),
  )

  pub waits_on : (o : Option ℕ) (j : ℕ) → slice_get links i ≡ Some o → o ≡ Some j → (p : Option ℕ) → slice_get marks j ≡ Some p → p ≡ None → Step marks (Some j)
  waits_on o j e is p f none = (
    link_within o j e is,
    subst (λ (r : Option (Option ℕ)). Awaits (λ so_far (q : ⊥) (x : ⊥). ⊥) (λ so_far q k. ⊥) (mark_at marks) (by_link i r) j) (sym (e ∙ ap Some is)) (inl (ap joined f ∙ none, refl)),
    record { stays = λ k n same. same; only = λ k n same. same },
  )

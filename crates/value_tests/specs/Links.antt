-- A small example of rules: each item has the mark of the one to which its link leads, and its own number where it has no link.
use Rattle.std.specs.Prelude.{◌≡◌, ℕ, ◌<◌, List, [], ◌∷◌, Option, None, Some, length, slice_get}
use Rattle.mark_walk.specs.Asks.{Ask, done, ask, Lasting}
use Rattle.mark_walk.specs.Marking.{AreNumbers}

abbrev pub by_link : ℕ → Option (Option ℕ) → Ask ℕ ℕ ⊥ ⊥ ℕ
by_link i None = done i
by_link i (Some None) = done i
by_link i (Some (Some j)) = ask j (λ m. done m)

abbrev pub link_rule : List (Option ℕ) → ℕ → Ask ℕ ℕ ⊥ ⊥ ℕ
link_rule links i = by_link i (slice_get links i)

-- each link leads to an item
abbrev pub AllBelow : List (Option ℕ) → ℕ → Type 0
AllBelow [] n = Unit {0}
AllBelow (None ∷ links) n = AllBelow links n
AllBelow (Some j ∷ links) n = j < n × AllBelow links n

abbrev pub LeadWithin : List (Option ℕ) → Type 0
LeadWithin links = AllBelow links (length links)

-- and there are as many marks
pub record AreLinks (links marks : List (Option ℕ)) : Type 0 where
  pub size : length marks ≡ length links
  pub within : LeadWithin links

abbrev pub IsSome : Option ℕ → Type 0
IsSome o = (n : ℕ) × (o ≡ Some n)

abbrev pub joined : Option (Option ℕ) → Option ℕ
joined None = None
joined (Some o) = o

abbrev pub mark_at : List (Option ℕ) → ℕ → Option ℕ
mark_at marks i = joined (slice_get marks i)

-- no rule puts a question
pub no_questions : Lasting {I = ℕ} {M = ℕ} (λ so_far (q : ⊥) (x : ⊥). ⊥) (λ so_far q i. ⊥)
no_questions = record {
  stays = λ so_far next q x keeps is. is;
  once = λ so_far q x y is also. absurd is;
  waits = λ so_far next q j keeps is none. is;
  missing = λ so_far q j is. absurd is;
}

pub own_numbers : (links : List (Option ℕ)) → AreNumbers (λ i. i < length links) (λ i. i) (length links)
own_numbers links = record { within = λ i low. low; apart = λ i j low also same. same }

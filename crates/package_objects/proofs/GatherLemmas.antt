-- What is gathered number by number.
use Rattle.std.proofs.Common.{◌≡◌, ℕ, zero, suc, ◌+◌, ◌≤◌, List, [], ◌∷◌, ◌++◌, slice_get, Option, None, refl, sym, ap, ◌∙◌, subst, append_assoc, arith}
use Rattle.go_tree.specs.declared.tree.Node.{Node}
use Rattle.object_order.specs.declared.spot.Entry.{Entry}
use Rattle.package_objects.specs.Declares.{gather, source_after, source_with, const_at, const_spec}

pub next_is : (n : ℕ) → suc n ≡ n + 1
next_is n = omega arith

pub gather_next : {A : Type 0} (g : ℕ → List A) (n : ℕ) → gather g n ++ g n ≡ gather g (n + 1)
gather_next g n = ap (λ k. gather g k) (next_is n)

-- one more
pub gather_on : {A : Type 0} (g : ℕ → List A) (n : ℕ) (old mid new : List A) → mid ≡ old ++ gather g n → new ≡ mid ++ g n → new ≡ old ++ gather g (n + 1)
gather_on g n old mid new was is =
    is ∙ (ap (λ xs. xs ++ g n) was ∙ (append_assoc old (gather g n) (g n) ∙ ap (λ xs. old ++ xs) (gather_next g n)))

pub gather_more : {A : Type 0} (g : ℕ → List A) (n : ℕ) (mid new : List A) → mid ≡ gather g n → new ≡ mid ++ g n → new ≡ gather g (n + 1)
gather_more g n mid new was is = is ∙ (ap (λ xs. xs ++ g n) was ∙ gather_next g n)

-- all
pub gather_all : {A : Type 0} (g : ℕ → List A) (i n : ℕ) (old new : List A) → n ≤ i → i ≤ n → new ≡ old ++ gather g i → new ≡ old ++ gather g n
gather_all g i n old new low high is = let same : i ≡ n = omega arith in is ∙ ap (λ k. old ++ gather g k) same

pub single : (n i : ℕ) → (i ≡ 0 → ⊥) → None ≡ slice_get (n ∷ []) i
single n zero apart = absurd (apart refl)
single n (suc i) apart = refl

-- the specification whose list counts, and the names of one specification more
pub constants_on : (file : ℕ) (nodes : List Node) (specs : List ℕ) (i : ℕ) (source newer : Option ℕ) (old mid new : List Entry)
    → source ≡ source_after nodes specs i → newer ≡ source_with nodes source (slice_get specs i) → mid ≡ old ++ gather (const_spec file nodes specs) i
    → new ≡ mid ++ const_at file nodes newer (slice_get specs i)
    → (newer ≡ source_after nodes specs (i + 1)) × (new ≡ old ++ gather (const_spec file nodes specs) (i + 1))
constants_on file nodes specs i source newer old mid new was now out is = (newer_is ∙ ap (λ k. source_after nodes specs k) (next_is i), gather_on (const_spec file nodes specs) i old mid new out named) where
  newer_is : newer ≡ source_after nodes specs (suc i)
  newer_is = now ∙ ap (λ o. source_with nodes o (slice_get specs i)) was

  named : new ≡ mid ++ const_spec file nodes specs i
  named = is ∙ ap (λ o. mid ++ const_at file nodes o (slice_get specs i)) newer_is

-- Each list has its members in strict order.
use Rattle.std.proofs.Common.{◌≡◌, ◌⊎◌, inl, inr, ◌<◌, ℕ, zero, suc, List, [], ◌∷◌, length, get_or, All, refl, sym, ap, ◌∙◌, subst, arith}
use Rattle.std.specs.List.{Contains, AllByRecursion}
use Rattle.std.specs.List.Sorted.{IsStrictlySortedBy}
use Rattle.std.specs.Cmp.{IsTotalOrder}
use Rattle.std.proofs.lemmas.Map.Lookups.{CmpEqualImpliesEq}
use Rattle.std.specs.Ordering.{ordering_reverse}
use Rattle.std.specs.declared.cmp.Ordering.{Ordering}
use Rattle.std.specs.declared.cmp.Ordering.TheVariants.{Less, Equal, Greater}
use Rattle.std.proofs.lemmas.List.Elements.{All-contains, All-from_recursion, recursion_from_All, Contains-get_or}
use Rattle.analysis_core.specs.declared.reply.FoundLine.{FoundLine}
use Rattle.analysis_core.specs.FoundOrder.{found_order}
use Rattle.analysis_core.proofs.OrderLemmas.{found_exact, found_total}
use Rattle.tree_findings.specs.Lines.{IsSettled}

is-first : {K : Type 0} (y : K) (ys : List K) → Contains (y ∷ ys) y
is-first y ys = (0, omega arith, refl)

is-later : {K : Type 0} (y : K) (ys : List K) (d : K) → Contains ys d → Contains (y ∷ ys) d
is-later y ys d c = (suc c.0, omega (arith, c.1), c.2)

first-or-later : {K : Type 0} (y : K) (ys : List K) (d : K) → Contains (y ∷ ys) d → (y ≡ d) ⊎ Contains ys d
first-or-later y ys d c = at y ys d c.0 c.1 c.2
  where
    at : {K : Type 0} (y : K) (ys : List K) (d : K) (k : ℕ) → k < length (y ∷ ys) → get_or (y ∷ ys) k d ≡ d → (y ≡ d) ⊎ Contains ys d
    at y ys d zero lt e = inl e
    at y ys d (suc k) lt e = inr (k, omega arith, e)

-- the list and this item, in order
record Inserted {K : Type 0} (R : K → K → Ordering) (x : K) (xs : List K) : Type 0 where
  list : List K
  sorted : IsStrictlySortedBy R list
  has : Contains list x
  keeps : (d : K) → Contains xs d → Contains list d
  only : (d : K) → Contains list d → (x ≡ d) ⊎ Contains xs d

module _ {K : Type 0} (R : K → K → Ordering) (total : IsTotalOrder R) (exact : CmpEqualImpliesEq R) where
  abbrev below : K → List K → Type 0
  below x ys = (d : K) → Contains ys d → R x d ≡ Less

  joined : (x : K) (ys : List K) → below x ys → IsStrictlySortedBy R ys → IsStrictlySortedBy R (x ∷ ys)
  unfolding IsStrictlySortedBy
  joined x ys low sorted = (recursion_from_All (λ y. R x y ≡ Less) ys (λ k d lt. low (get_or ys k d) (Contains-get_or ys k d lt)), sorted)

  behind : (x : K) (xs : List K) → IsStrictlySortedBy R (x ∷ xs) → below x xs
  unfolding IsStrictlySortedBy
  behind x xs s d c = All-contains (λ y. R x y ≡ Less) xs d (All-from_recursion _ _ s.0) c

  rest : (x : K) (xs : List K) → IsStrictlySortedBy R (x ∷ xs) → IsStrictlySortedBy R xs
  unfolding IsStrictlySortedBy
  rest x xs s = s.1

  turned : (x y : K) → R x y ≡ Greater → R y x ≡ Less
  turned x y e = total.antisymm y x ∙ ap ordering_reverse e

  insert : (x : K) (xs : List K) → IsStrictlySortedBy R xs → Inserted R x xs
  insert x [] sorted = record {
    list = x ∷ [];
    sorted = joined x [] (λ d c. absurd (let l = c.1 in omega (arith, l))) sorted;
    has = is-first x [];
    keeps = λ d c. is-later x [] d c;
    only = λ d c. first-or-later x [] d c;
  }
  insert x (y ∷ ys) sorted = by (R x y) refl (insert x ys (rest y ys sorted))
    where
      by : (o : Ordering) → R x y ≡ o → Inserted R x ys → Inserted R x (y ∷ ys)
      by Less e more = record {
        list = x ∷ y ∷ ys;
        sorted = joined x (y ∷ ys) (λ d c. elim (first-or-later y ys d c) [
          | inl same ↦ subst (λ z. R x z ≡ Less) same e
          | inr later ↦ total.trans x y d e (behind y ys sorted d later)
        ]) sorted;
        has = is-first x (y ∷ ys);
        keeps = λ d c. is-later x (y ∷ ys) d c;
        only = λ d c. first-or-later x (y ∷ ys) d c;
      }
      by Equal e more =
          let same : x ≡ y = exact x y e in
          record {
            list = y ∷ ys;
            sorted = sorted;
            has = subst (Contains (y ∷ ys)) (sym same) (is-first y ys);
            keeps = λ d c. c;
            only = λ d c. inr c;
          }
      by Greater e more =
          record {
            list = y ∷ more.list;
            sorted = joined y more.list (λ d c. elim (more.only d c) [
              | inl same ↦ subst (λ z. R y z ≡ Less) same (turned x y e)
              | inr there ↦ behind y ys sorted d there
            ]) more.sorted;
            has = is-later y more.list x more.has;
            keeps = λ d c. elim (first-or-later y ys d c) [
              | inl same ↦ subst (Contains (y ∷ more.list)) same (is-first y more.list)
              | inr later ↦ is-later y more.list d (more.keeps d later)
            ];
            only = λ d c. elim (first-or-later y more.list d c) [
              | inl same ↦ inr (subst (Contains (y ∷ ys)) same (is-first y ys))
              | inr later ↦ elim (more.only d later) [ inl same ↦ inl same | inr there ↦ inr (is-later y ys d there) ]
            ];
          }

-- the members of a list, in strict order
pub record Ordered (xs : List FoundLine) : Type 0 where
  pub list : List FoundLine
  pub settled : IsSettled xs list

pub ordered : (xs : List FoundLine) → Ordered xs
unfolding IsStrictlySortedBy
ordered [] = record { list = []; settled = record { each = λ l c. c; every = λ l c. c; rises = tt } }
ordered (x ∷ xs) =
    let more = ordered xs in
    let new = insert found_order found_total found_exact x more.list more.settled.rises in
    record {
      list = new.list;
      settled = record {
        each = λ l c. elim (new.only l c) [
          | inl same ↦ subst (Contains (x ∷ xs)) same (is-first x xs)
          | inr there ↦ is-later x xs l (more.settled.each l there)
        ];
        every = λ l c. elim (first-or-later x xs l c) [
          | inl same ↦ subst (Contains new.list) same new.has
          | inr later ↦ new.keeps l (more.settled.every l later)
        ];
        rises = new.sorted;
      };
    }

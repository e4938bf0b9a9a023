-- Flags that are set one by one, objects that are picked one by one.
use Rattle.std.proofs.Common.{◌≡◌, ℕ, zero, suc, ◌+◌, ◌<◌, ◌≤◌, ◌⊎◌, Bool, List, [], ◌∷◌, ◌++◌, length, take, set, slice_get, Option, Some, None, refl, sym, ap, ◌∙◌, subst, inl, inr, arith}
use Rattle.std.specs.List.{filter_map, cons_option}
use Rattle.std.proofs.Math.ListN.{length-set}
use Rattle.std.proofs.lemmas.Option.{slice_get_within}
use Rattle.need_order.specs.declared.needed.Needed as vertex
use Rattle.object_order.specs.Picks.{flag_in, AreFlags}
use Rattle.gv_base.proofs.Lists.{same_some}

set_here : (flags : List Bool) (n : ℕ) (b : Bool) → n < length flags → flag_in (set flags n b) n ≡ b
set_here [] n b low = absurd (omega arith)
set_here (x ∷ flags) zero b low = refl
set_here (x ∷ flags) (suc n) b low = set_here flags n b (omega arith)

set_there : (flags : List Bool) (n m : ℕ) (b : Bool) → (m ≡ n → ⊥) → flag_in (set flags n b) m ≡ flag_in flags m
set_there [] zero m b apart = refl
set_there [] (suc n) m b apart = refl
set_there (x ∷ flags) zero zero b apart = absurd (apart refl)
set_there (x ∷ flags) zero (suc m) b apart = refl
set_there (x ∷ flags) (suc n) zero b apart = refl
set_there (x ∷ flags) (suc n) (suc m) b apart = set_there flags n m b (λ e. apart (omega arith))

apart : (k i : ℕ) → k < i + 1 → (k < i) ⊎ (k ≡ i)
apart k i h = grind arith

-- the flags of the first few items are set
pub record AreSet (order : List vertex.Needed) (flags : List Bool) (count i : ℕ) : Type 0 where
  pub size : length flags ≡ count
  pub so_far : (k : ℕ) (e : vertex.Needed) → k < i → slice_get order k ≡ Some e → flag_in flags e.vertex ≡ e.cyclic

pub set_none : (order : List vertex.Needed) (flags : List Bool) (count : ℕ) → length flags ≡ count → AreSet order flags count 0
set_none order flags count size = record { size = size; so_far = λ k e low at. absurd (omega arith) }

pub set_more : (order : List vertex.Needed) (flags new : List Bool) (count i : ℕ) (item : vertex.Needed)
    → ((j k : ℕ) (e f : vertex.Needed) → slice_get order j ≡ Some e → slice_get order k ≡ Some f → e.vertex ≡ f.vertex → j ≡ k)
    → slice_get order i ≡ Some item → item.vertex < count → AreSet order flags count i → new ≡ set flags item.vertex item.cyclic → AreSet order new count (i + 1)
set_more order flags new count i item once here low was now = subst (λ (x : List Bool). AreSet order x count (i + 1)) (sym now) (record {
  size = length-set flags item.vertex item.cyclic ∙ was.size;
  so_far = λ k e less at. elim (apart k i less) [
    | inl before ↦ set_there flags item.vertex e.vertex item.cyclic (λ same. (let p : k ≡ i = once k i e item at here same in omega arith)) ∙ was.so_far k e before at
    | inr is ↦ (let one : item ≡ e = same_some (slice_get order i) item e here (ap (λ x. slice_get order x) (sym is) ∙ at) in
        subst (λ (x : vertex.Needed). flag_in (set flags item.vertex item.cyclic) x.vertex ≡ x.cyclic) one
        (set_here flags item.vertex item.cyclic (let s = was.size in omega arith)))
  ];
})

pub set_all : (order : List vertex.Needed) (flags : List Bool) (count i : ℕ) → length order ≤ i → AreSet order flags count i → AreFlags order flags
set_all order flags count i end was k e at = was.so_far k e (let h = slice_get_within order k e at in omega arith) at

-- ---- picking

joined : {Y : Type 0} (o : Option Y) (xs ys : List Y) → cons_option o (xs ++ ys) ≡ cons_option o xs ++ ys
joined None xs ys = refl
joined (Some x) xs ys = refl

pub picks_more : {X Y : Type 0} (f : X → Option Y) (xs : List X) (i : ℕ) (x : X) → slice_get xs i ≡ Some x → filter_map f (take (i + 1) xs) ≡ filter_map f (take i xs) ++ cons_option (f x) []
picks_more f [] i x at = absurd (cc)
picks_more f (y ∷ xs) zero x at = ap (λ o. cons_option o []) (ap f (same_some (Some y) y x refl at))
picks_more f (y ∷ xs) (suc i) x at =
    let e : suc i + 1 ≡ suc (i + 1) = omega arith in
    ap (λ n. filter_map f (take n (y ∷ xs))) e
    ∙ (ap (λ ys. cons_option (f y) ys) (picks_more f xs i x at) ∙ joined (f y) (filter_map f (take i xs)) (cons_option (f x) []))

pub picked_more : {X Y : Type 0} (f : X → Option Y) (xs : List X) (i : ℕ) (x : X) (one : Option Y) (list new : List Y)
    → slice_get xs i ≡ Some x → one ≡ f x → list ≡ filter_map f (take i xs) → new ≡ list ++ cons_option one [] → new ≡ filter_map f (take (i + 1) xs)
picked_more {X} {Y} f xs i x one list new at one_is was now =
    now ∙ (ap (λ (l : List Y). l ++ cons_option one []) was ∙ (ap (λ o. filter_map f (take i xs) ++ cons_option o []) one_is ∙ sym (picks_more f xs i x at)))

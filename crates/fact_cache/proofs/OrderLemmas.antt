-- Numbers that climb below a count are those that rise up to it.
use Rattle.std.proofs.Common.{◌≡◌, ℕ, ◌<◌, ◌≤◌, ◌+◌, ◌⊎◌, Bool, true, false, Option, Some, None, List, [], ◌∷◌, ◌++◌, append_assoc, refl, sym, ap, ◌∙◌, inl, inr, arith}
use Rattle.std.specs.Prelude.{◌==◌, nat_lt}
use Rattle.std.specs.List.{flat_map}
use Rattle.std.proofs.lemmas.Bool.{eqb-true, ltb-false, ltb-true, le-ltb, lt-ltb, eq-eqb}
use Rattle.gv_bytes.specs.Reading.{◌>>=◌}
use Rattle.fact_cache.specs.declared.numbered.Numbered.{Numbered}
use Rattle.fact_cache.specs.Coded.{climb, climbs, climbs_rows, rises}
use Rattle.fact_cache.specs.Numbered.{numbers_of}
use Rattle.fact_cache.proofs.CodedLemmas.{rises-step, rises-most}

bind-same : {A B : Type 0} (o : Option A) (f g : A → Option B) → ((x : A) → f x ≡ g x) → (o >>= f) ≡ (o >>= g)
bind-same (Some x) f g same = same x
bind-same None f g same = refl

bind-assoc : {A B C : Type 0} (o : Option A) (f : A → Option B) (g : B → Option C) → (o >>= λ x. f x >>= g) ≡ ((o >>= f) >>= g)
bind-assoc (Some x) f g = refl
bind-assoc None f g = refl

climbs-append : (count next : ℕ) (xs ys : List ℕ) → climbs count next (xs ++ ys) ≡ (climbs count next xs >>= λ k. climbs count k ys)
climbs-append count next [] ys = refl
climbs-append count next (x ∷ xs) ys =
    bind-same (climb count next x) (λ k. climbs count k (xs ++ ys)) (λ k. climbs count k xs >>= λ j. climbs count j ys) (λ k. climbs-append count k xs ys)
    ∙ bind-assoc (climb count next x) (λ k. climbs count k xs) (λ j. climbs count j ys)

rows-climb : (count next : ℕ) (rows : List Numbered) → climbs_rows count next rows ≡ climbs count next (flat_map numbers_of rows)
rows-climb count next [] = refl
rows-climb count next (r ∷ rs) =
    bind-same (climbs count next r.texts) (λ k. climb count k r.outcome >>= λ j. climbs_rows count j rs) (λ k. climbs count k (r.outcome ∷ flat_map numbers_of rs))
    (λ k. bind-same (climb count k r.outcome) (λ j. climbs_rows count j rs) (λ j. climbs count j (flat_map numbers_of rs)) (λ j. rows-climb count j rs))
    ∙ (sym (climbs-append count next r.texts (r.outcome ∷ flat_map numbers_of rs)) ∙ ap (climbs count next) (sym (append_assoc r.texts (r.outcome ∷ []) (flat_map numbers_of rs))))

climb-step : (count next n k : ℕ) (ns : List ℕ) (a b c : Bool) → nat_lt n next ≡ a → nat_lt next n ≡ b → nat_lt n count ≡ c → climbs count next (n ∷ ns) ≡ Some k
    → ((n < next) × (climbs count next ns ≡ Some k)) ⊎ ((n ≡ next) × (climbs count (next + 1) ns ≡ Some k))
climb-step count next n k ns true b c x y z e = inl (ltb-true n next x, rw x at e)
climb-step count next n k ns false true c x y z e = let none : None ≡ Some k = rw (x, y) at e in cc
climb-step count next n k ns false false true x y z e =
    let low : next ≤ n = ltb-false n next x in let high : n ≤ next = ltb-false next n y in inr (omega (arith, low, high), rw (x, y, z) at e)
climb-step count next n k ns false false false x y z e = let none : None ≡ Some k = rw (x, y, z) at e in cc

climbs-rise : (count next k : ℕ) (ns : List ℕ) → climbs count next ns ≡ Some k → rises next ns ≡ Some k
climbs-rise count next k [] e = e
climbs-rise count next k (n ∷ ns) e = elim (climb-step count next n k ns (nat_lt n next) (nat_lt next n) (nat_lt n count) refl refl refl e) [
  | inl p ↦ rw (lt-ltb n next p.0) (climbs-rise count next k ns p.1)
  | inr p ↦ let same : n ≡ next = p.0 in rw (le-ltb n next (omega (arith, same)), eq-eqb n next same) (climbs-rise count (next + 1) k ns p.1)
]

rises-climb : (count next : ℕ) (ns : List ℕ) → rises next ns ≡ Some count → climbs count next ns ≡ Some count
rises-climb count next [] e = e
rises-climb count next (n ∷ ns) e = elim (rises-step next n count ns (nat_lt n next) (n == next) refl refl e) [
  | inl p ↦ rw (lt-ltb n next p.0) (rises-climb count next ns p.1)
  | inr p ↦
      let same : n ≡ next = p.0 in
      let most : next + 1 ≤ count = rises-most (next + 1) ns count p.1 in
      rw (le-ltb n next (omega (arith, same)), le-ltb next n (omega (arith, same)), lt-ltb n count (omega (arith, same, most))) (rises-climb count (next + 1) ns p.1)
]

pub order-none : (count : ℕ) (rows : List Numbered) → climbs_rows count 0 rows ≡ None → rises 0 (flat_map numbers_of rows) ≡ Some count → ⊥
order-none count rows none e =
    let wrong : None ≡ Some count = sym none ∙ (rows-climb count 0 rows ∙ rises-climb count 0 (flat_map numbers_of rows) e) in cc

pub order-some : (count last : ℕ) (rows : List Numbered) → climbs_rows count 0 rows ≡ Some last
    → ((last == count) ≡ true → rises 0 (flat_map numbers_of rows) ≡ Some count) × (rises 0 (flat_map numbers_of rows) ≡ Some count → (last == count) ≡ true)
order-some count last rows is = (
  λ e. climbs-rise count 0 last (flat_map numbers_of rows) (sym (rows-climb count 0 rows) ∙ is) ∙ ap (λ k. Some k) (eqb-true last count e),
  λ e. let one : Some last ≡ Some count = sym is ∙ (rows-climb count 0 rows ∙ rises-climb count 0 (flat_map numbers_of rows) e) in
      let same : last ≡ count = cc in eq-eqb last count same,
)

-- One place of the kept texts changes.
use Rattle.std.proofs.Common.{◌≡◌, ℕ, ◌<◌, ◌≤◌, ◌+◌, ◌-◌, ◌⊎◌, Bool, true, false, Some, List, [], ◌∷◌, ◌++◌, length, slice_get, get_or, set, map, refl, sym, ap, ◌∙◌, subst, inl, inr, arith, zero, suc}
use Rattle.std.specs.Prelude.{◌==◌, if◌then◌else◌}
use Rattle.std.proofs.lemmas.Bool.Decides.{Decides-eqb}
use Rattle.std.proofs.lemmas.Option.{slice_get_within}
use Rattle.fact_cache.specs.declared.kept.Place.{Place}
use Rattle.fact_cache.specs.Inputs.{Text}
use Rattle.fact_cache.specs.Spread.{text_mix, head_of}
use Rattle.fact_cache.specs.declared.spread.Key.{Key}
use Rattle.fact_cache.specs.Kept.{uses_of, bytes_of, mix_of, uses_at, text_at, mix_at, AreMixed, IsMixOf, IsAbsent, weight, kept_bytes, AreFound, AreKept, IsChanged, IsHeld, IsFreed}
use Rattle.fact_cache.proofs.ListFacts.{get-push_left, get-push_here, length-push}

pub decide : (m n : ℕ) → (m ≡ n) ⊎ (m ≡ n → ⊥)
decide m n = by (m == n) refl
  where
    by : (c : Bool) → (m == n) ≡ c → (m ≡ n) ⊎ (m ≡ n → ⊥)
    by true t = inl ((Decides-eqb m n).0 t)
    by false t = inr (λ e. let u : true ≡ false = sym ((Decides-eqb m n).1 e) ∙ t in cc)

lower : (a b : ℕ) → suc a < suc b → a < b
lower a b i = let x : suc a ≡ a + 1 = omega arith in let y : suc b ≡ b + 1 = omega arith in omega (arith, i, x, y)

set-here : {X : Type 0} (f : Place → X) (d : X) (ps : List Place) (n : ℕ) (p : Place) → n < length ps → get_or (map f (set ps n p)) n d ≡ f p
set-here f d [] n p i = absurd (omega (arith, i))
set-here f d (q ∷ ps) zero p i = refl
set-here f d (q ∷ ps) (suc n) p i = set-here f d ps n p (lower n (length ps) i)

set-there : {X : Type 0} (f : Place → X) (d : X) (ps : List Place) (n m : ℕ) (p : Place) → (m ≡ n → ⊥) → get_or (map f (set ps n p)) m d ≡ get_or (map f ps) m d
set-there f d [] n m p other = refl
set-there f d (q ∷ ps) zero zero p other = absurd (other refl)
set-there f d (q ∷ ps) zero (suc m) p other = refl
set-there f d (q ∷ ps) (suc n) zero p other = refl
set-there f d (q ∷ ps) (suc n) (suc m) p other = set-there f d ps n m p (λ e. other (ap (λ k. suc k) e))

swapped : (a b k : ℕ) → a + k + b ≡ b + k + a
swapped a b k = omega arith

further : (a b k l x : ℕ) → k + a ≡ l + b → x + k + a ≡ x + l + b
further a b k l x e = omega (arith, e)

set-sum : (ps : List Place) (n : ℕ) (p : Place) → n < length ps → kept_bytes (set ps n p) + weight (uses_at ps n) (text_at ps n) ≡ kept_bytes ps + weight p.uses p.bytes
set-sum [] n p i = absurd (omega (arith, i))
set-sum (q ∷ ps) zero p i = swapped (weight p.uses p.bytes) (weight q.uses q.bytes) (kept_bytes ps)
set-sum (q ∷ ps) (suc n) p i =
    further (weight (uses_at ps n) (text_at ps n)) (weight p.uses p.bytes) (kept_bytes (set ps n p)) (kept_bytes ps) (weight q.uses q.bytes) (set-sum ps n p (lower n (length ps) i))

pub changed-set : (ps new : List Place) (n : ℕ) (p : Place) → n < length ps → new ≡ set ps n p → IsChanged ps new n p.uses p.mix p.bytes
changed-set ps new n p i e = subst (λ (l : List Place). IsChanged ps l n p.uses p.mix p.bytes) (sym e) (record {
  uses_here = set-here uses_of 0 ps n p i;
  mix_here = set-here mix_of 0 ps n p i;
  text_here = set-here bytes_of [] ps n p i;
  uses_there = λ m other. set-there uses_of 0 ps n m p other;
  mix_there = λ m other. set-there mix_of 0 ps n m p other;
  text_there = λ m other. set-there bytes_of [] ps n m p other;
  sum = set-sum ps n p i;
})

push-here : {X : Type 0} (f : Place → X) (d : X) (ps : List Place) (p : Place) → get_or (map f (ps ++ p ∷ [])) (length ps) d ≡ f p
push-here f d [] p = refl
push-here f d (q ∷ ps) p = push-here f d ps p

push-there : {X : Type 0} (f : Place → X) (d : X) (ps : List Place) (m : ℕ) (p : Place) → (m ≡ length ps → ⊥) → get_or (map f (ps ++ p ∷ [])) m d ≡ get_or (map f ps) m d
push-there f d [] zero p other = absurd (other refl)
push-there f d [] (suc m) p other = refl
push-there f d (q ∷ ps) zero p other = refl
push-there f d (q ∷ ps) (suc m) p other = push-there f d ps m p (λ e. other (ap (λ k. suc k) e))

pub outside : {X : Type 0} (f : Place → X) (d : X) (ps : List Place) → get_or (map f ps) (length ps) d ≡ d
outside f d [] = refl
outside f d (q ∷ ps) = outside f d ps

push-sum : (ps : List Place) (p : Place) → kept_bytes (ps ++ p ∷ []) ≡ kept_bytes ps + weight p.uses p.bytes
push-sum [] p = omega arith
push-sum (q ∷ ps) p = ap (λ n. weight q.uses q.bytes + n) (push-sum ps p) ∙ regrouped (weight q.uses q.bytes) (kept_bytes ps) (weight p.uses p.bytes)
  where
    regrouped : (a b c : ℕ) → a + (b + c) ≡ a + b + c
    regrouped a b c = omega arith

pub changed-push : (ps new : List Place) (p : Place) → new ≡ ps ++ p ∷ [] → IsChanged ps new (length ps) p.uses p.mix p.bytes
changed-push ps new p e = subst (λ (l : List Place). IsChanged ps l (length ps) p.uses p.mix p.bytes) (sym e) (record {
  uses_here = push-here uses_of 0 ps p;
  mix_here = push-here mix_of 0 ps p;
  text_here = push-here bytes_of [] ps p;
  uses_there = λ m other. push-there uses_of 0 ps m p other;
  mix_there = λ m other. push-there mix_of 0 ps m p other;
  text_there = λ m other. push-there bytes_of [] ps m p other;
  sum = let none : weight (uses_at ps (length ps)) (text_at ps (length ps)) ≡ 0 = weightless (uses_at ps (length ps)) (text_at ps (length ps)) (outside uses_of 0 ps) in
      ap (λ n. kept_bytes (ps ++ p ∷ []) + n) none ∙ (added (kept_bytes (ps ++ p ∷ [])) ∙ push-sum ps p);
})
  where
    weightless : (u : ℕ) (t : Text) → u ≡ 0 → weight u t ≡ 0
    weightless u t z = subst (λ n. weight n t ≡ 0) (sym z) refl

    added : (n : ℕ) → n + 0 ≡ n
    added n = omega arith

-- how often each place is used
uses-after : (old new : List Place) (n u x m : ℕ) (t : Text) (c : Bool) → (n == m) ≡ c → IsChanged old new n u x t → uses_at new m ≡ (if c then u else uses_at old m)
uses-after old new n u x m t true e is = subst (λ k. uses_at new k ≡ u) ((Decides-eqb n m).0 e) is.uses_here
uses-after old new n u x m t false e is = is.uses_there m (λ s. let w : true ≡ false = sym ((Decides-eqb n m).1 (sym s)) ∙ e in cc)

none_more : (n : ℕ) → n ≡ 0 + n
none_more n = omega arith

held-uses : (old new : List Place) (n u x m : ℕ) (t : Text) (c : Bool) → (n == m) ≡ c → u ≡ 1 + uses_at old n → IsChanged old new n u x t → uses_at new m ≡ (if c then 1 else 0) + uses_at old m
held-uses old new n u x m t true e more is =
    uses-after old new n u x m t true e is ∙ (more ∙ ap (λ k. 1 + uses_at old k) ((Decides-eqb n m).0 e))
held-uses old new n u x m t false e more is = uses-after old new n u x m t false e is ∙ none_more (uses_at old m)

pub changed-held : (old new : List Place) (n u x : ℕ) (t : Text) → IsChanged old new n u x t → u ≡ 1 + uses_at old n → (0 < uses_at old n → t ≡ text_at old n) → IsHeld old new t n
changed-held old new n u x t is more same = record {
  here = is.text_here;
  more = λ m. held-uses old new n u x m t (n == m) refl more is;
  same = λ m l. elim (decide m n) [
    | inl e ↦ subst (λ k. text_at new k ≡ text_at old k) (sym e) (is.text_here ∙ same (subst (λ k. 0 < uses_at old k) e l))
    | inr other ↦ is.text_there m other
  ];
}

freed-uses : (old new : List Place) (n u x m : ℕ) (t : Text) (c : Bool) → (n == m) ≡ c → uses_at old n ≡ 1 + u → IsChanged old new n u x t → uses_at old m ≡ (if c then 1 else 0) + uses_at new m
freed-uses old new n u x m t true e more is =
    subst (λ k. uses_at old k ≡ 1 + uses_at new k) ((Decides-eqb n m).0 e) (more ∙ ap (λ k. 1 + k) (sym is.uses_here))
freed-uses old new n u x m t false e more is = sym (uses-after old new n u x m t false e is) ∙ none_more (uses_at new m)

pub changed-freed : (old new : List Place) (n u x : ℕ) (t : Text) → IsChanged old new n u x t → uses_at old n ≡ 1 + u → (0 < u → t ≡ text_at old n) → IsFreed old new n
changed-freed old new n u x t is more same = record {
  less = λ m. freed-uses old new n u x m t (n == m) refl more is;
  same = λ m l. elim (decide m n) [
    | inl e ↦ subst (λ k. text_at new k ≡ text_at old k) (sym e) (is.text_here ∙ same (subst (λ k. 0 < k) is.uses_here (subst (λ k. 0 < uses_at new k) e l)))
    | inr other ↦ is.text_there m other
  ];
}

-- the kept texts stay found
pub found-changed : (index grown : List ℕ) (old new : List Place) (n u x : ℕ) (t : Text) → AreFound index old → IsChanged old new n u x t
    → length grown ≡ length new → ((k b : ℕ) → slice_get index k ≡ Some b → slice_get grown k ≡ Some b)
    → (0 < u → slice_get grown n ≡ Some (head_of x))
    → (0 < u → (m : ℕ) → (m ≡ n → ⊥) → 0 < uses_at old m → text_at old m ≡ t → ⊥)
    → AreFound grown new
found-changed index grown old new n u x t are is size stays keyed apart = record {
  size = size;
  keyed = λ m l. elim (decide m n) [
    | inl e ↦ subst (λ k. slice_get grown k ≡ Some (head_of (mix_at new k))) (sym e)
        (keyed (risen m l e) ∙ ap (λ y. Some (head_of y)) (sym is.mix_here))
    | inr other ↦ stays m (head_of (mix_at new m)) (are.keyed m (was m l other) ∙ ap (λ y. Some (head_of y)) (sym (is.mix_there m other)))
  ];
  distinct = λ j k lj lk same. elim (decide j n) [
    | inl ej ↦ elim (decide k n) [
      | inl ek ↦ ej ∙ sym ek
      | inr ok ↦ absurd (apart (risen j lj ej) k ok (was k lk ok) (sym (is.text_there k ok) ∙ (sym same ∙ (ap (λ y. text_at new y) ej ∙ is.text_here))))
    ]
    | inr oj ↦ elim (decide k n) [
      | inl ek ↦ absurd (apart (risen k lk ek) j oj (was j lj oj) (sym (is.text_there j oj) ∙ (same ∙ (ap (λ y. text_at new y) ek ∙ is.text_here))))
      | inr ok ↦ are.distinct j k (was j lj oj) (was k lk ok) (sym (is.text_there j oj) ∙ (same ∙ is.text_there k ok))
    ]
  ];
}
  where
    risen : (m : ℕ) → 0 < uses_at new m → m ≡ n → 0 < u
    risen m l e = subst (λ k. 0 < k) is.uses_here (subst (λ k. 0 < uses_at new k) e l)

    was : (m : ℕ) → 0 < uses_at new m → (m ≡ n → ⊥) → 0 < uses_at old m
    was m l other = subst (λ k. 0 < k) (is.uses_there m other) l

-- where the text stays or ends
pub found-same : (index : List ℕ) (old new : List Place) (n u x : ℕ) (t : Text) → AreFound index old → IsChanged old new n u x t → length new ≡ length old
    → 0 < uses_at old n → (0 < u → x ≡ mix_at old n) → (0 < u → t ≡ text_at old n) → AreFound index new
found-same index old new n u x t are is size live same_mix same =
    found-changed index index old new n u x t are is (are.size ∙ sym size) (λ k b g. g)
    (λ l. are.keyed n live ∙ ap (λ y. Some (head_of y)) (sym (same_mix l)))
    (λ l m other lm e. other (are.distinct m n lm live (e ∙ same l)))

-- and each beside its number
pub mixed-changed : (key : Key) (old new : List Place) (n u x : ℕ) (t : Text) → AreMixed key old → IsChanged old new n u x t → (0 < u → x ≡ text_mix key t) → AreMixed key new
mixed-changed key old new n u x t are is own m l = elim (decide m n) [
  | inl e ↦ subst (λ k. mix_at new k ≡ text_mix key (text_at new k)) (sym e)
      (is.mix_here ∙ (own (subst (λ k. 0 < k) is.uses_here (subst (λ k. 0 < uses_at new k) e l)) ∙ ap (text_mix key) (sym is.text_here)))
  | inr other ↦ is.mix_there m other ∙ (are m (subst (λ k. 0 < k) (is.uses_there m other) l) ∙ ap (text_mix key) (sym (is.text_there m other)))
]

pub mix-is-of : (key : Key) (places : List Place) (t : Text) (x : ℕ) → AreMixed key places → x ≡ text_mix key t → IsMixOf places t x
mix-is-of key places t x are e n l same = are n l ∙ (ap (text_mix key) same ∙ sym e)

pub length-set : {X : Type 0} (xs : List X) (n : ℕ) (x : X) → length (set xs n x) ≡ length xs
length-set [] n x = refl
length-set (y ∷ xs) zero x = refl
length-set (y ∷ xs) (suc n) x = ap (λ k. suc k) (length-set xs n x)

pub live-inside : (ps : List Place) (n : ℕ) → 0 < uses_at ps n → n < length ps
live-inside [] n l = absurd (omega (arith, l))
live-inside (p ∷ ps) zero l = omega arith
live-inside (p ∷ ps) (suc n) l = let i : n < length ps = live-inside ps n l in let x : suc n ≡ n + 1 = omega arith in let y : suc (length ps) ≡ length ps + 1 = omega arith in omega (arith, i, x, y)

-- a place without uses takes a text
pub found-revived : (index : List ℕ) (old new : List Place) (n b x : ℕ) (t : Text) → AreFound index old → IsAbsent old t → slice_get index n ≡ Some b → b ≡ head_of x
    → new ≡ set old n (record { bytes = t; uses = 1; mix = x }) → AreFound index new × IsChanged old new n 1 x t
found-revived index old new n b x t are absent at b_is e =
    let inside : n < length old = subst (λ k. n < k) are.size (slice_get_within index n b at) in
    let is : IsChanged old new n 1 x t = changed-set old new n (record { bytes = t; uses = 1; mix = x }) inside e in (
      found-changed index index old new n 1 x t are is (are.size ∙ sym (ap length e ∙ length-set old n (record { bytes = t; uses = 1; mix = x }))) (λ k c g. g)
          (λ l. at ∙ ap (λ y. Some y) b_is) (λ l m other lm s. absent m lm s),
      is,
    )

found-appended : (index grown : List ℕ) (old new : List Place) (b x : ℕ) (t : Text) → AreFound index old → IsAbsent old t → b ≡ head_of x
    → grown ≡ index ++ b ∷ [] → new ≡ old ++ record { bytes = t; uses = 1; mix = x } ∷ [] → AreFound grown new × IsChanged old new (length old) 1 x t
found-appended index grown old new b x t are absent b_is ge e =
    let is : IsChanged old new (length old) 1 x t = changed-push old new (record { bytes = t; uses = 1; mix = x }) e in
    let size : length grown ≡ length new = ap length ge ∙ (length-push index b ∙ (ap (λ k. k + 1) are.size ∙ (sym (length-push old (record { bytes = t; uses = 1; mix = x })) ∙ sym (ap length e)))) in (
      found-changed index grown old new (length old) 1 x t are is size
          (λ k c g. subst (λ l. slice_get l k ≡ Some c) (sym ge) (get-push_left index b c k g))
          (λ l. subst (λ m. slice_get m (length old) ≡ Some (head_of x)) (sym ge)
          (subst (λ k. slice_get (index ++ b ∷ []) k ≡ Some (head_of x)) are.size (get-push_here index b ∙ ap (λ y. Some y) b_is)))
          (λ l m other lm s. absent m lm s),
      is,
    )

pub found-added : (index grown : List ℕ) (old new : List Place) (b n x : ℕ) (t : Text) → AreFound index old → IsAbsent old t → b ≡ head_of x
    → grown ≡ index ++ b ∷ [] → new ≡ old ++ record { bytes = t; uses = 1; mix = x } ∷ [] → n ≡ length old → AreFound grown new × IsChanged old new n 1 x t × (uses_at old n ≡ 0)
found-added index grown old new b n x t are absent b_is ge e n_is =
    let both : AreFound grown new × IsChanged old new (length old) 1 x t = found-appended index grown old new b x t are absent b_is ge e in
    (both.0, subst (λ k. IsChanged old new k 1 x t) (sym n_is) both.1, subst (λ k. uses_at old k ≡ 0) (sym n_is) (outside uses_of 0 old))

pub weight-live : (u : ℕ) (t : Text) → 0 < u → weight u t ≡ length t
weight-live u t l = by (u == 0) refl
  where
    by : (c : Bool) → (u == 0) ≡ c → (if c then 0 else length t) ≡ length t
    by true e = let z : u ≡ 0 = (Decides-eqb u 0).0 e in absurd (omega (arith, z, l))
    by false e = refl

pub weight-none : (u : ℕ) (t : Text) → u ≡ 0 → weight u t ≡ 0
weight-none u t z = subst (λ n. weight n t ≡ 0) (sym z) refl

pub sum-new : (old new : List Place) (n total x : ℕ) (t : Text) → total ≡ kept_bytes old → uses_at old n ≡ 0 → IsChanged old new n 1 x t → total + length t ≡ kept_bytes new
sum-new old new n total x t e none is =
    let s : kept_bytes new + weight (uses_at old n) (text_at old n) ≡ kept_bytes old + length t = is.sum in
    let z : weight (uses_at old n) (text_at old n) ≡ 0 = weight-none (uses_at old n) (text_at old n) none in
    by (kept_bytes new) (kept_bytes old) (length t) (weight (uses_at old n) (text_at old n)) total s z e
  where
    by : (a b c w x : ℕ) → a + w ≡ b + c → w ≡ 0 → x ≡ b → x + c ≡ a
    by a b c w x s z e = omega (arith, s, z, e)

-- used more or less often, and still used
pub kept-same : (index : List ℕ) (old new : List Place) (n u total : ℕ) → AreKept index old total → 0 < uses_at old n → 0 < u
    → new ≡ set old n (record { bytes = text_at old n; uses = u; mix = mix_at old n }) → AreKept index new total × IsChanged old new n u (mix_at old n) (text_at old n)
kept-same index old new n u total are live risen e =
    let p : Place = record { bytes = text_at old n; uses = u; mix = mix_at old n } in
    let is : IsChanged old new n u (mix_at old n) (text_at old n) = changed-set old new n p (live-inside old n live) e in (
      record {
        found = found-same index old new n u (mix_at old n) (text_at old n) are.found is (ap length e ∙ length-set old n p) live (λ l. refl) (λ l. refl);
        sum = by (kept_bytes new) (kept_bytes old) (length (text_at old n)) (weight (uses_at old n) (text_at old n)) (weight u (text_at old n)) total
            is.sum (weight-live (uses_at old n) (text_at old n) live) (weight-live u (text_at old n) risen) are.sum;
      },
      is,
    )
  where
    by : (a b c w v x : ℕ) → a + w ≡ b + v → w ≡ c → v ≡ c → x ≡ b → x ≡ a
    by a b c w v x s p q e = omega (arith, s, p, q, e)

-- used no more
pub kept-ended : (index : List ℕ) (old new : List Place) (n u total x : ℕ) (t : Text) → AreKept index old total → 0 < uses_at old n → u ≡ 0
    → new ≡ set old n (record { bytes = t; uses = u; mix = x }) → AreKept index new (total - length (text_at old n)) × IsChanged old new n u x t
kept-ended index old new n u total x t are live none e =
    let p : Place = record { bytes = t; uses = u; mix = x } in
    let is : IsChanged old new n u x t = changed-set old new n p (live-inside old n live) e in (
      record {
        found = found-same index old new n u x t are.found is (ap length e ∙ length-set old n p) live (λ l. absurd (omega (arith, l, none))) (λ l. absurd (omega (arith, l, none)));
        sum = by (kept_bytes new) (kept_bytes old) (length (text_at old n)) (weight (uses_at old n) (text_at old n)) (weight u t) total
            is.sum (weight-live (uses_at old n) (text_at old n) live) (weight-none u t none) are.sum;
      },
      is,
    )
  where
    by : (a b c w v x : ℕ) → a + w ≡ b + v → w ≡ c → v ≡ 0 → x ≡ b → x - c ≡ a
    by a b c w v x s p q e = omega (arith, s, p, q, e)

-- a kept text isn't longer than all together
pub weight-within : (index : List ℕ) (old : List Place) (n total : ℕ) → AreKept index old total → 0 < uses_at old n → length (text_at old n) ≤ total
weight-within index old n total are live = subst (λ k. length (text_at old n) ≤ k) (sym are.sum) (within old n live)
  where
    within : (ps : List Place) (n : ℕ) → 0 < uses_at ps n → length (text_at ps n) ≤ kept_bytes ps
    within [] n l = absurd (omega (arith, l))
    within (p ∷ ps) zero l = by (length p.bytes) (weight p.uses p.bytes) (kept_bytes ps) (weight-live p.uses p.bytes l)
      where
        by : (a w k : ℕ) → w ≡ a → a ≤ w + k
        by a w k e = omega (arith, e)
    within (p ∷ ps) (suc n) l = by (length (text_at ps n)) (weight p.uses p.bytes) (kept_bytes ps) (within ps n l)
      where
        by : (a w k : ℕ) → a ≤ k → a ≤ w + k
        by a w k e = omega (arith, e)

-- What `hold_again` and `free` do, from the facts of their steps.
pub held-more : (index : List ℕ) (view old lent new : List Place) (n was u total : ℕ) → view ≡ old → AreKept index old total → 0 < uses_at view n
    → lent ≡ old → was ≡ uses_at lent n → u ≡ was + 1 → new ≡ set old n (record { bytes = text_at old n; uses = u; mix = mix_at old n })
    → AreKept index new total × IsHeld view new (text_at view n) n × ((key : Key) → AreMixed key view → AreMixed key new)
held-more index view old lent new n was u total view_is are live lent_is was_is more e =
    let own : was ≡ uses_at old n = was_is ∙ ap (λ (l : List Place). uses_at l n) lent_is in
    let risen : 0 < uses_at old n = subst (λ (l : List Place). 0 < uses_at l n) view_is live in
    let both : AreKept index new total × IsChanged old new n u (mix_at old n) (text_at old n) = kept-same index old new n u total are risen (omega (arith, more)) e in (
      both.0,
      subst (λ (l : List Place). IsHeld l new (text_at l n) n) (sym view_is)
          (changed-held old new n u (mix_at old n) (text_at old n) both.1 (one_more (uses_at old n) was u own more) (λ l. refl)),
      λ key mixed. let was_mixed : AreMixed key old = subst (AreMixed key) view_is mixed in
          mixed-changed key old new n u (mix_at old n) (text_at old n) was_mixed both.1 (λ l. was_mixed n risen),
    )
  where
    one_more : (a b u : ℕ) → b ≡ a → u ≡ b + 1 → u ≡ 1 + a
    one_more a b u x y = omega (arith, x, y)

one_less : (a b u : ℕ) → 0 < a → b ≡ a → u ≡ b - 1 → a ≡ 1 + u
one_less a b u l x y = omega (arith, l, x, y)

pub freed-more : (index : List ℕ) (view old lent new : List Place) (n was u total : ℕ) → view ≡ old → AreKept index old total → 0 < uses_at view n
    → lent ≡ old → was ≡ uses_at lent n → u ≡ was - 1 → 0 < u → new ≡ set old n (record { bytes = text_at old n; uses = u; mix = mix_at old n })
    → AreKept index new total × IsFreed view new n × ((key : Key) → AreMixed key view → AreMixed key new)
freed-more index view old lent new n was u total view_is are live lent_is was_is less risen e =
    let own : was ≡ uses_at old n = was_is ∙ ap (λ (l : List Place). uses_at l n) lent_is in
    let some_are : 0 < uses_at old n = subst (λ (l : List Place). 0 < uses_at l n) view_is live in
    let both : AreKept index new total × IsChanged old new n u (mix_at old n) (text_at old n) = kept-same index old new n u total are some_are risen e in (
      both.0,
      subst (λ (l : List Place). IsFreed l new n) (sym view_is)
          (changed-freed old new n u (mix_at old n) (text_at old n) both.1 (one_less (uses_at old n) was u some_are own less) (λ l. refl)),
      λ key mixed. let was_mixed : AreMixed key old = subst (AreMixed key) view_is mixed in
          mixed-changed key old new n u (mix_at old n) (text_at old n) was_mixed both.1 (λ l. was_mixed n some_are),
    )

pub freed-last : (index : List ℕ) (view old lent again : List Place) (t : Text) (new : List Place) (n was u total x : ℕ) (empty : Text) → view ≡ old → AreKept index old total → 0 < uses_at view n
    → lent ≡ old → was ≡ uses_at lent n → u ≡ was - 1 → u ≤ 0 → again ≡ old → t ≡ text_at again n → new ≡ set old n (record { bytes = empty; uses = u; mix = x })
    → AreKept index new (total - length t) × IsFreed view new n × ((key : Key) → AreMixed key view → AreMixed key new)
freed-last index view old lent again t new n was u total x empty view_is are live lent_is was_is less ended again_is t_is e =
    let own : was ≡ uses_at old n = was_is ∙ ap (λ (l : List Place). uses_at l n) lent_is in
    let some_are : 0 < uses_at old n = subst (λ (l : List Place). 0 < uses_at l n) view_is live in
    let none : u ≡ 0 = omega (arith, ended) in
    let both : AreKept index new (total - length (text_at old n)) × IsChanged old new n u x empty = kept-ended index old new n u total x empty are some_are none e in
    let text_is : t ≡ text_at old n = t_is ∙ ap (λ (l : List Place). text_at l n) again_is in (
      subst (λ (y : Text). AreKept index new (total - length y)) (sym text_is) both.0,
      subst (λ (l : List Place). IsFreed l new n) (sym view_is)
          (changed-freed old new n u x empty both.1 (one_less (uses_at old n) was u some_are own less) (λ l. absurd (omega (arith, l, none)))),
      λ key mixed. mixed-changed key old new n u x empty (subst (AreMixed key) view_is mixed) both.1 (λ l. absurd (omega (arith, l, none))),
    )

pub freed-within : (index : List ℕ) (view old again : List Place) (t : Text) (n total : ℕ) → view ≡ old → AreKept index old total → 0 < uses_at view n
    → again ≡ old → t ≡ text_at again n → length t ≤ total
freed-within index view old again t n total view_is are live again_is t_is =
    subst (λ (x : Text). length x ≤ total) (sym (t_is ∙ ap (λ (l : List Place). text_at l n) again_is))
    (weight-within index old n total are (subst (λ (l : List Place). 0 < uses_at l n) view_is live))

-- Points that are marked, by how far they are from where a search starts.
use Rattle.std.proofs.Common.{◌≡◌, ◌<◌, ◌≤◌, ◌-◌, ◌⊎◌, ℕ, zero, suc, Bool, true, false, cond, List, [], ◌∷◌, ◌++◌, length, set, get_or, take, replicate, refl, sym, ap, ◌∙◌, subst, arith}
use Rattle.std.specs.Prelude.{nat_eq, nat_lt}
use Rattle.std.proofs.lemmas.Bool.{cases_eq, eqb-true, eq-eqb, ltb-true, lt-ltb}
use Rattle.std.proofs.lemmas.List.{get_or-set_other, get_or-set_same, take_all}
use Rattle.flow.specs.Passing.{flag_of}
use Rattle.flow.specs.Seen.{has}
use Rattle.flow.specs.declared.seen.Seen.{Seen}
use Rattle.flow.proofs.AroundLemmas.{either}
use Rattle.flow.proofs.SearchLemmas.{no_truth, by_bool}

eq_true : (m n : ℕ) → m ≡ n → nat_eq m n ≡ true
eq_true m n e = eq-eqb m n e

eq_false : (m n : ℕ) → (m ≡ n → ⊥) → nat_eq m n ≡ false
eq_false m n apart = by_bool (nat_eq m n) (λ e. absurd (apart (eqb-true m n e))) (λ e. e)

lt_true : (m n : ℕ) → m < n → nat_lt m n ≡ true
lt_true m n low = lt-ltb m n low

pub lt_false : (m n : ℕ) → n ≤ m → nat_lt m n ≡ false
lt_false m n high = by_bool (nat_lt m n) (λ e. absurd (let low = ltb-true m n e in omega arith)) (λ e. e)

taken : {A : Type 0} (b : Bool) (x y : A) → b ≡ true → cond b x y ≡ x
taken true x y e = refl
taken false x y e = no_truth e

left : {A : Type 0} (b : Bool) (x y : A) → b ≡ false → cond b x y ≡ y
left true x y e = no_truth (sym e)
left false x y e = refl

-- a flag more that is set
pub put_flag : (old new : List Bool) (at n : ℕ) → at < length old → new ≡ set old at true → flag_of new n ≡ cond (nat_eq at n) true (flag_of old n)
put_flag old new at n low is = ap (λ l. flag_of l n) is ∙ either (cases_eq n at)
    (λ same. ap (λ k. get_or (set old at true) k false) same ∙ (get_or-set_same old at true false low ∙ sym (taken (nat_eq at n) true (flag_of old n) (eq_true at n (sym same)))))
    (λ apart. get_or-set_other old at n true false apart ∙ sym (left (nat_eq at n) true (flag_of old n) (eq_false at n (λ e. apart (sym e)))))

marks_cond : (b c x y z : Bool) → b ≡ c → x ≡ y → z ≡ cond b true x → z ≡ cond c true y
marks_cond b c x y z e f g = g ∙ (ap (λ k. cond k true x) e ∙ ap (λ k. cond c true k) f)

-- the mark of a point: that of those behind the start, or that of the others
abbrev mark_of : ℕ → List Bool → List Bool → ℕ → Bool
mark_of start before behind q = cond (nat_lt start q) (flag_of behind (q - start)) (flag_of before (start - q))

-- where it is up to the start
pub marked_before : (start at : ℕ) (before behind new : List Bool) → at ≤ start
    → ((n : ℕ) → flag_of new n ≡ cond (nat_eq (start - at) n) true (flag_of before n)) → (q : ℕ) → mark_of start new behind q ≡ cond (nat_eq at q) true (mark_of start before behind q)
marked_before start at before behind new low marks q = by_bool (nat_lt start q)
    (λ past.
    let far = ltb-true start q past in
    taken (nat_lt start q) (flag_of behind (q - start)) (flag_of new (start - q)) past
    ∙ (sym (taken (nat_lt start q) (flag_of behind (q - start)) (flag_of before (start - q)) past)
    ∙ sym (left (nat_eq at q) true (mark_of start before behind q) (eq_false at q (λ e. absurd (omega arith))))))
    (λ near.
    let close : q ≤ start = not_past start q near in
    left (nat_lt start q) (flag_of behind (q - start)) (flag_of new (start - q)) near
    ∙ marks_cond (nat_eq (start - at) (start - q)) (nat_eq at q) (flag_of before (start - q)) (mark_of start before behind q) (flag_of new (start - q)) (as_far start at q low close)
    (sym (left (nat_lt start q) (flag_of behind (q - start)) (flag_of before (start - q)) near)) (marks (start - q)))
  where
    as_far : (s m n : ℕ) → m ≤ s → n ≤ s → nat_eq (s - m) (s - n) ≡ nat_eq m n
    as_far s m n low high = either (cases_eq m n)
        (λ same. eq_true (s - m) (s - n) (ap (λ k. s - k) same) ∙ sym (eq_true m n same))
        (λ apart. eq_false (s - m) (s - n) (λ e. apart (omega arith)) ∙ sym (eq_false m n apart))

    within : (s q : ℕ) → (q ≤ s) ⊎ (s < q)
    within s q = grind arith

    not_past : (s q : ℕ) → nat_lt s q ≡ false → q ≤ s
    not_past s q e = either (within s q) (λ low. low) (λ past. no_truth (sym e ∙ lt_true s q past))

-- where it is behind it
pub marked_behind : (start at : ℕ) (before behind new : List Bool) → start < at
    → ((n : ℕ) → flag_of new n ≡ cond (nat_eq (at - start) n) true (flag_of behind n)) → (q : ℕ) → mark_of start before new q ≡ cond (nat_eq at q) true (mark_of start before behind q)
marked_behind start at before behind new far marks q = by_bool (nat_lt start q)
    (λ past.
    taken (nat_lt start q) (flag_of new (q - start)) (flag_of before (start - q)) past
    ∙ marks_cond (nat_eq (at - start) (q - start)) (nat_eq at q) (flag_of behind (q - start)) (mark_of start before behind q) (flag_of new (q - start)) (as_far start at q far (ltb-true start q past))
    (sym (taken (nat_lt start q) (flag_of behind (q - start)) (flag_of before (start - q)) past)) (marks (q - start)))
    (λ near.
    left (nat_lt start q) (flag_of new (q - start)) (flag_of before (start - q)) near
    ∙ (sym (left (nat_lt start q) (flag_of behind (q - start)) (flag_of before (start - q)) near)
    ∙ sym (left (nat_eq at q) true (mark_of start before behind q) (eq_false at q (λ e. no_truth (sym near ∙ lt_true start q (subst (λ k. start < k) e far)))))))
  where
    as_far : (s m n : ℕ) → s < m → s < n → nat_eq (m - s) (n - s) ≡ nat_eq m n
    as_far s m n low high = either (cases_eq m n)
        (λ same. eq_true (m - s) (n - s) (ap (λ k. k - s) same) ∙ sym (eq_true m n same))
        (λ apart. eq_false (m - s) (n - s) (λ e. apart (omega arith)) ∙ sym (eq_false m n apart))

pub flag_before : (s : Seen) (at : ℕ) → at ≤ s.start → has s at ≡ flag_of s.before.items (s.start - at)
flag_before s at low = left (nat_lt s.start at) (flag_of s.behind.items (at - s.start)) (flag_of s.before.items (s.start - at)) (lt_false s.start at low)

pub flag_behind : (s : Seen) (at : ℕ) → s.start < at → has s at ≡ flag_of s.behind.items (at - s.start)
flag_behind s at far = taken (nat_lt s.start at) (flag_of s.behind.items (at - s.start)) (flag_of s.before.items (s.start - at)) (lt_true s.start at far)

no_flag : (l : List Bool) (n : ℕ) → l ≡ [] → flag_of l n ≡ false
no_flag l n is = ap (λ k. flag_of k n) is

pub nothing_seen : (s : Seen) (q : ℕ) → s.before.items ≡ [] → s.behind.items ≡ [] → has s q ≡ false
nothing_seen s q before behind = by_bool (nat_lt s.start q)
    (λ past. taken (nat_lt s.start q) (flag_of s.behind.items (q - s.start)) (flag_of s.before.items (s.start - q)) past ∙ no_flag s.behind.items (q - s.start) behind)
    (λ near. left (nat_lt s.start q) (flag_of s.behind.items (q - s.start)) (flag_of s.before.items (s.start - q)) near ∙ no_flag s.before.items (s.start - q) before)

-- more flags that aren't set

no_more : (count n : ℕ) → flag_of (replicate count false) n ≡ false
no_more zero n = refl
no_more (suc count) zero = refl
no_more (suc count) (suc n) = no_more count n

pub more_unset : (old : List Bool) (count n : ℕ) → flag_of (old ++ replicate count false) n ≡ flag_of old n
more_unset [] count n = no_more count n
more_unset (x ∷ old) count zero = refl
more_unset (x ∷ old) count (suc n) = more_unset old count n

pub grown : (old : List Bool) (size count n : ℕ) → length old ≤ size → flag_of (take size old ++ replicate count false) n ≡ flag_of old n
grown old size count n high = ap (λ l. flag_of (l ++ replicate count false) n) (take_all size old high) ∙ more_unset old count n

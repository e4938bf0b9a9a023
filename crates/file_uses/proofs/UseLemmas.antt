-- Flags of nodes, as they are cleared.
use Rattle.std.proofs.Common.{◌≡◌, ◌≢◌, ℕ, zero, suc, ◌-◌, ◌+◌, ◌<◌, ◌≤◌, ◌⊎◌, List, [], ◌∷◌, ◌++◌, Bool, true, false, get_or, slice_get, set, Some, None, length, take, replicate, refl, sym, ap, ◌∙◌, subst, arith, inl, inr, get_or-set_same, get_or-set_other, nat_eq, eqb→eq, eq-eqb, T}
use Rattle.std.specs.List.{Contains}
use Rattle.std.proofs.Math.ListN.{length-set}
use Rattle.std.proofs.lemmas.List.{take_more}
use Rattle.std.proofs.lemmas.List.Elements.{Contains-push, Contains-push_cases, Contains-append_left}
use Rattle.std.proofs.lemmas.Option.{slice_get_within}
use Rattle.go_tree.specs.declared.tree.Node.{Node}
use Rattle.file_uses.specs.Uses.{named_part, IsOfPart, IsNamedBy, IsSet, IsCleared, ArePlain}
use Rattle.gv_base.proofs.Lists.{same_some}

nat_cases : (i j : ℕ) → (i ≡ j) ⊎ (i ≢ j)
nat_cases i j = at (nat_eq i j) refl where
  at : (same : Bool) → nat_eq i j ≡ same → (i ≡ j) ⊎ (i ≢ j)
  at true e = inl (eqb→eq i j (subst (λ (x : Bool). T x) (sym e) tt))
  at false e = inr (λ is. let f : nat_eq i j ≡ true = eq-eqb i j is in cc)

not_both : (b : Bool) → b ≡ false → b ≡ true → ⊥
not_both b e f = let g : false ≡ true = sym e ∙ f in cc

pub get_past : (xs : List Bool) (k : ℕ) → length xs ≤ k → get_or xs k false ≡ false
get_past [] k h = refl
get_past (x ∷ xs) zero h = absurd (omega arith)
get_past (x ∷ xs) (suc k) h = get_past xs k (omega arith)

pub cleared_one : (flags : List Bool) (at : ℕ) → at < length flags → IsCleared flags (set flags at false) (λ n. at ≡ n)
cleared_one flags at low = record {
  size = length-set flags at false;
  kept = λ n h. elim (nat_cases n at) [
    | inl same ↦ absurd (here n same h)
    | inr other ↦ sym (get_or-set_other flags at n false false other) ∙ h
  ];
  gone = λ n h e. here n (sym e) h;
  left = λ n h not_it. elim (nat_cases n at) [
    | inl same ↦ absurd (not_it (sym same))
    | inr other ↦ get_or-set_other flags at n false false other ∙ h
  ];
} where
  here : (n : ℕ) → n ≡ at → IsSet (set flags at false) n → ⊥
  here n same h = not_both (get_or (set flags at false) n false) (ap (λ x. get_or (set flags at false) x false) same ∙ get_or-set_same flags at false false low) h

pub cleared_past : (flags : List Bool) (at : ℕ) → length flags ≤ at → IsCleared flags flags (λ n. at ≡ n)
cleared_past flags at high = record {
  size = refl;
  kept = λ n h. h;
  gone = λ n h e. not_both (get_or flags n false) (get_past flags n (subst (λ (x : ℕ). length flags ≤ x) e high)) h;
  left = λ n h not_it. h;
}

pub cleared_none : (flags : List Bool) (P : ℕ → Type 0) → ((n : ℕ) → P n → ⊥) → IsCleared flags flags P
cleared_none flags P none = record { size = refl; kept = λ n h. h; gone = λ n h p. none n p; left = λ n h not_it. h }

-- what is cleared first and then
pub cleared_then : (a b c : List Bool) (P Q R : ℕ → Type 0) → IsCleared a b P → IsCleared b c Q → ((n : ℕ) → R n → P n ⊎ Q n) → ((n : ℕ) → P n → R n) → ((n : ℕ) → Q n → R n) → IsCleared a c R
cleared_then a b c P Q R x y cases left right = record {
  size = y.size ∙ x.size;
  kept = λ n h. x.kept n (y.kept n h);
  gone = λ n h r. elim (cases n r) [ inl p ↦ x.gone n (y.kept n h) p | inr q ↦ y.gone n h q ];
  left = λ n h not_it. y.left n (x.left n h (λ p. not_it (left n p))) (λ q. not_it (right n q));
}

pub cleared_same : (a b : List Bool) (P Q : ℕ → Type 0) → ((n : ℕ) → Q n → P n) → ((n : ℕ) → P n → Q n) → IsCleared a b P → IsCleared a b Q
cleared_same a b P Q back forth x = record { size = x.size; kept = x.kept; gone = λ n h q. x.gone n h (back n q); left = λ n h not_it. x.left n h (λ p. not_it (forth n p)) }

none_in : (n : ℕ) → Contains [] n → ⊥
none_in n (i, h, e) = absurd (omega arith)

pub no_parts : (flags : List Bool) → IsCleared flags flags (λ n. Contains [] n)
no_parts flags = cleared_none flags (λ n. Contains [] n) none_in

pub one_part_more : (a b c : List Bool) (parts : List ℕ) (i : ℕ) → i < length parts → IsCleared a b (λ n. Contains (take i parts) n) → IsCleared b c (λ n. get_or parts i 0 ≡ n)
    → IsCleared a c (λ n. Contains (take (i + 1) parts) n)
one_part_more a b c parts i low x y = cleared_then a b c (λ n. Contains (take i parts) n) (λ n. get_or parts i 0 ≡ n) (λ n. Contains (take (i + 1) parts) n) x y
    (λ n r. Contains-push_cases (take i parts) (get_or parts i 0) n (subst (λ (l : List ℕ). Contains l n) (take_more parts i 0 low) r))
    (λ n p. subst (λ (l : List ℕ). Contains l n) (sym (take_more parts i 0 low)) (Contains-append_left (take i parts) (get_or parts i 0 ∷ []) n p))
    (λ n q. subst (λ (l : List ℕ). Contains l n) (sym (take_more parts i 0 low)) (subst (λ (k : ℕ). Contains (take i parts ++ get_or parts i 0 ∷ []) k) q (Contains-push (take i parts) (get_or parts i 0))))

pub all_parts : (a b : List Bool) (parts : List ℕ) (i : ℕ) → length parts ≤ i → IsCleared a b (λ n. Contains (take i parts) n) → IsCleared a b (λ n. Contains parts n)
all_parts a b parts i end x = subst (λ (l : List ℕ). IsCleared a b (λ n. Contains l n)) (take_all parts i end) x where
  take_all : (xs : List ℕ) (i : ℕ) → length xs ≤ i → take i xs ≡ xs
  take_all [] zero h = refl
  take_all [] (suc i) h = refl
  take_all (x ∷ xs) zero h = absurd (omega arith)
  take_all (x ∷ xs) (suc i) h = ap (λ r. x ∷ r) (take_all xs i (omega arith))

pub part_there : (a b c : List Bool) (nodes : List Node) (part : ℕ) (names : Node) → slice_get nodes part ≡ Some names → IsCleared a b (λ n. part ≡ n) → IsCleared b c (λ n. Contains names.parts n)
    → IsCleared a c (λ n. IsOfPart nodes part n)
part_there a b c nodes part names there x y = cleared_then a b c (λ n. part ≡ n) (λ n. Contains names.parts n) (λ n. IsOfPart nodes part n) x y
    (λ n r. elim r [
      | inl same ↦ inl same
      | inr in_it ↦ inr (subst (λ (m : Node). Contains m.parts n) (same_some (slice_get nodes part) in_it.0 names in_it.1 there) in_it.2)
    ])
    (λ n p. inl p)
    (λ n q. inr (names, there, q))

pub part_past : (a b : List Bool) (nodes : List Node) (part : ℕ) → length nodes ≤ part → IsCleared a b (λ n. part ≡ n) → IsCleared a b (λ n. IsOfPart nodes part n)
part_past a b nodes part high x = cleared_same a b (λ n. part ≡ n) (λ n. IsOfPart nodes part n)
    (λ n q. elim q [ inl same ↦ same | inr in_it ↦ absurd (let low = slice_get_within nodes part in_it.0 in_it.1 in omega arith) ]) (λ n p. inl p) x

some_same : (a b : ℕ) → Some a ≡ Some b → a ≡ b
some_same a b e = cc

pub named_there : (a b : List Bool) (nodes : List Node) (p part : ℕ) (node : Node) → slice_get nodes p ≡ Some node → named_part node ≡ Some part → IsCleared a b (λ n. IsOfPart nodes part n)
    → IsCleared a b (λ n. IsNamedBy nodes p n)
named_there a b nodes p part node there is x = cleared_same a b (λ n. IsOfPart nodes part n) (λ n. IsNamedBy nodes p n) back (λ n q. (node, part, there, is, q)) x where
  back : (n : ℕ) → IsNamedBy nodes p n → IsOfPart nodes part n
  back n (other, its, there_too, names, q) =
      let same : other ≡ node = same_some (slice_get nodes p) other node there_too there in
      let part_is : its ≡ part = some_same its part (sym names ∙ (ap named_part same ∙ is)) in
      subst (λ (x : ℕ). IsOfPart nodes x n) part_is q

pub named_none : (flags : List Bool) (nodes : List Node) (p : ℕ) (node : Node) → slice_get nodes p ≡ Some node → named_part node ≡ None → IsCleared flags flags (λ n. IsNamedBy nodes p n)
named_none flags nodes p node there is = cleared_none flags (λ n. IsNamedBy nodes p n) never where
  never : (n : ℕ) → IsNamedBy nodes p n → ⊥
  never n (other, its, there_too, names, q) =
      let same : other ≡ node = same_some (slice_get nodes p) other node there_too there in
      let none_it : None ≡ Some its = sym is ∙ (sym (ap named_part same) ∙ names) in cc

-- ---- the loop over the nodes

-- the flags of the nodes that none of the first few names
pub record PlainSoFar (nodes : List Node) (i : ℕ) (flags : List Bool) : Type 0 where
  pub size : length flags ≡ length nodes
  pub plain : (n : ℕ) → IsSet flags n → (p : ℕ) → p < i → IsNamedBy nodes p n → ⊥
  pub all : (n : ℕ) → n < length nodes → ((p : ℕ) → p < i → IsNamedBy nodes p n → ⊥) → IsSet flags n

all_true : (count n : ℕ) → n < count → get_or (replicate count true) n false ≡ true
all_true zero n h = absurd (omega arith)
all_true (suc count) zero h = refl
all_true (suc count) (suc n) h = all_true count n (omega arith)

count_true : (count : ℕ) → length (replicate count true) ≡ count
count_true zero = refl
count_true (suc count) = ap (λ n. suc n) (count_true count)

pub begin : (nodes : List Node) (flags : List Bool) → flags ≡ replicate (length nodes) true → PlainSoFar nodes 0 flags
begin nodes flags is = record {
  size = ap length is ∙ count_true (length nodes);
  plain = λ n h p low. absurd (omega arith);
  all = λ n low h. ap (λ x. get_or x n false) is ∙ all_true (length nodes) n low;
}

pub go_on : (nodes : List Node) (i : ℕ) (old new : List Bool) → PlainSoFar nodes i old → IsCleared old new (λ n. IsNamedBy nodes i n) → PlainSoFar nodes (i + 1) new
go_on nodes i old new was x = record {
  size = x.size ∙ was.size;
  plain = λ n h p low named. elim (before_or_at p low) [
    | inl before ↦ was.plain n (x.kept n h) p before named
    | inr here ↦ x.gone n h (subst (λ (q : ℕ). IsNamedBy nodes q n) here named)
  ];
  all = λ n low none. x.left n (was.all n low (λ p below. none p (omega arith))) (none i (omega arith));
} where
  before_or_at : (p : ℕ) → p < i + 1 → (p < i) ⊎ (p ≡ i)
  before_or_at p low = grind arith

pub finish : (nodes : List Node) (i : ℕ) (flags : List Bool) → length nodes ≤ i → PlainSoFar nodes i flags → ArePlain nodes flags
finish nodes i flags end was = record {
  size = was.size;
  plain = λ n h p named. was.plain n h p (let low = slice_get_within nodes p named.0 named.2 in omega arith) named;
  all = λ n low none. was.all n low (λ p below. none p);
}

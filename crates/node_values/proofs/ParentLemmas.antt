-- What each node is a part of.
use Rattle.std.proofs.Common.{◌≡◌, ℕ, zero, suc, ◌<◌, ◌+◌, ◌≤◌, List, [], ◌∷◌, ◌++◌, length, take, replicate, set, get_or, slice_get, Some, refl, sym, ap, ◌∙◌, subst, inl, inr, arith, get_or-set_same, get_or-set_other}
use Rattle.std.specs.List.{Contains}
use Rattle.std.proofs.Math.ListN.{length-set}
use Rattle.std.proofs.lemmas.List.{take_more}
use Rattle.std.proofs.lemmas.List.Elements.{Contains-push, Contains-push_cases, Contains-append_left}
use Rattle.go_tree.specs.declared.tree.Node.{Node}
use Rattle.node_values.proofs.CaseLemmas.{same_some, nat_cases, before_or_at}
use Rattle.node_values.specs.Trees.{IsPart}
use Rattle.node_values.specs.Parents.{at, AreGiven, AreParents}

none_in : (n : ℕ) → Contains [] n → ⊥
none_in n (i, h, e) = absurd (omega arith)

only_one : (p n : ℕ) → Contains (p ∷ []) n → p ≡ n
only_one p n (zero, h, e) = e
only_one p n (suc i, h, e) = absurd (omega arith)

-- ---- giving a number to parts

pub given_one : (numbers : List ℕ) (i p : ℕ) → i < length numbers → AreGiven (i ∷ []) p numbers (set numbers i p)
given_one numbers i p low = record {
  size = length-set numbers i p;
  each = λ n within_it. elim (nat_cases n i) [
    | inl same ↦ inl (ap (λ x. get_or (set numbers i p) x 0) same ∙ get_or-set_same numbers i p 0 low, (0, omega arith, sym same))
    | inr other ↦ inr (get_or-set_other numbers i n p 0 other, λ c. other (sym (only_one i n c)))
  ];
}

pub given_past : (numbers : List ℕ) (i p : ℕ) → length numbers ≤ i → AreGiven (i ∷ []) p numbers numbers
given_past numbers i p high = record { size = refl; each = λ n low. inr (refl, λ c. absurd (let e = only_one i n c in omega arith)) }

pub given_none : (numbers : List ℕ) (p : ℕ) → AreGiven [] p numbers numbers
given_none numbers p = record { size = refl; each = λ n low. inr (refl, λ c. none_in n c) }

pub given_more : (parts : List ℕ) (i p : ℕ) (a b c : List ℕ) → i < length parts → AreGiven (take i parts) p a b → AreGiven (get_or parts i 0 ∷ []) p b c → AreGiven (take (i + 1) parts) p a c
given_more parts i p a b c low x y = record {
  size = y.size ∙ x.size;
  each = λ n within_it. elim (y.each n (let s = x.size in omega arith)) [
    | inl now ↦ inl (now.0, subst (λ (l : List ℕ). Contains l n) (sym (take_more parts i 0 low)) (at_end (get_or parts i 0) n (only_one (get_or parts i 0) n now.1)))
    | inr kept ↦ elim (x.each n within_it) [
      | inl old ↦ inl (kept.0 ∙ old.0, subst (λ (l : List ℕ). Contains l n) (sym (take_more parts i 0 low)) (Contains-append_left (take i parts) (get_or parts i 0 ∷ []) n old.1))
      | inr none ↦ inr (
        kept.0 ∙ none.0,
        λ q. elim (Contains-push_cases (take i parts) (get_or parts i 0) n (subst (λ (l : List ℕ). Contains l n) (take_more parts i 0 low) q)) [
          | inl before ↦ none.1 before
          | inr this ↦ kept.1 (0, omega arith, this)
        ],
      )
    ]
  ];
} where
  at_end : (z n : ℕ) → z ≡ n → Contains (take i parts ++ z ∷ []) n
  at_end z n e = subst (λ (w : ℕ). Contains (take i parts ++ z ∷ []) w) e (Contains-push (take i parts) z)

-- ---- parents

all_of : (count p n : ℕ) → n < count → at (replicate count p) n ≡ p
all_of zero p n h = absurd (omega arith)
all_of (suc count) p zero h = refl
all_of (suc count) p (suc n) h = all_of count p n (omega arith)

pub count_of : (count p : ℕ) → length (replicate count p) ≡ count
count_of zero p = refl
count_of (suc count) p = ap (λ n. suc n) (count_of count p)

pub no_parents : (nodes : List Node) (parents : List ℕ) → parents ≡ replicate (length nodes) (length nodes) → AreParents nodes 0 parents
no_parents nodes parents is = record {
  size = ap length is ∙ count_of (length nodes) (length nodes);
  each = λ n low. inr (ap (λ x. at x n) is ∙ all_of (length nodes) (length nodes) n low, λ q less. absurd (omega arith));
}

pub parents_more : (nodes : List Node) (i : ℕ) (node : Node) (a b : List ℕ) → slice_get nodes i ≡ Some node → AreParents nodes i a → AreGiven node.parts i a b → AreParents nodes (i + 1) b
parents_more nodes i node a b there was now = record {
  size = now.size ∙ was.size;
  each = λ n low. elim (now.each n (let s = was.size in omega arith)) [
    | inl this ↦ inl (subst (λ (p : ℕ). IsPart nodes p n) (sym this.0) (node, there, this.1))
    | inr other ↦ elim (was.each n low) [
      | inl old ↦ inl (subst (λ (p : ℕ). IsPart nodes p n) (sym other.0) old)
      | inr none ↦ inr (
        other.0 ∙ none.0,
        λ q less is. elim (before_or_at q i less) [
          | inl before ↦ none.1 q before is
          | inr here ↦ other.1 (subst (λ (x : Node). Contains x.parts n) (same_some (slice_get nodes q) is.0 node is.1 (ap (λ x. slice_get nodes x) here ∙ there)) is.2)
        ],
      )
    ]
  ];
}

pub all_parents : (nodes : List Node) (i : ℕ) (parents : List ℕ) → i ≡ length nodes → AreParents nodes i parents → AreParents nodes (length nodes) parents
all_parents nodes i parents is h = subst (λ (x : ℕ). AreParents nodes x parents) is h

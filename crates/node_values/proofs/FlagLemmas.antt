-- The flags of what nodes lead to.
use Rattle.std.proofs.Common.{◌≡◌, ℕ, suc, ◌<◌, ◌+◌, Bool, true, false, List, [], ◌∷◌, length, get_or, Option, Some, None, refl, sym, ap, ◌∙◌, subst, inl, inr, arith}
use Rattle.go_tree.proofs.NodeLemmas.{differ}
use Rattle.node_values.specs.Handed.{AreTops}
use Rattle.node_values.specs.Flagged.{IsOnly, AreFlagged, Marks}
use Rattle.node_values.proofs.CaseLemmas.{before_or_at}

pub only_is : (P : ℕ → Type 0) (o : Option ℕ) (t : ℕ) → IsOnly P o → P t → o ≡ Some t
only_is P None t none holds = absurd (none t holds)
only_is P (Some v) t (own, one) holds = ap Some (sym (one t holds))

pub only_has : (P : ℕ → Type 0) (o : Option ℕ) (t : ℕ) → IsOnly P o → o ≡ Some t → P t
only_has P None t none e = absurd cc
only_has P (Some v) t (own, one) e = subst P (let f : v ≡ t = cc in f) own

pub none_flagged : (Leads : ℕ → ℕ → Type 0) (count : ℕ) (flags : List Bool) → AreTops count false flags → AreFlagged Leads 0 count flags
none_flagged Leads count flags tops = record {
  size = tops.size;
  each = λ t low. (λ e. absurd (differ (get_or flags t false) (tops.each t) e), λ (n, less, leads). absurd (omega arith));
}

pub flagged_more : (Leads : ℕ → ℕ → Type 0) (n count : ℕ) (o : Option ℕ) (old new : List Bool) → IsOnly (Leads n) o → Marks o old new
    → AreFlagged Leads n count old → AreFlagged Leads (n + 1) count new
flagged_more Leads n count o old new only (size, marks) was = record {
  size = size ∙ was.size;
  each = λ t low. elim (marks t (let s = was.size in omega arith)) [
    | inl now ↦ (
      λ e. (n, omega arith, only_has (Leads n) o t only now.0),
      λ left. now.1,
    )
    | inr kept ↦ (
      λ e. (let (m, less, leads) = (was.each t low).0 (sym kept.1 ∙ e) in (m, omega arith, leads)),
      λ (m, less, leads). elim (before_or_at m n less) [
        | inl before ↦ kept.1 ∙ (was.each t low).1 (m, before, leads)
        | inr same ↦ absurd (kept.0 (only_is (Leads n) o t only (subst (λ x. Leads x t) same leads)))
      ],
    )
  ];
}

pub all_flagged : (Leads : ℕ → ℕ → Type 0) (n all count : ℕ) (flags : List Bool) → n ≡ all → AreFlagged Leads n count flags → AreFlagged Leads all count flags
all_flagged Leads n all count flags same are = subst (λ k. AreFlagged Leads k count flags) same are

same_bool : (a b : Bool) → ((a ≡ true) → (b ≡ true)) → ((b ≡ true) → (a ≡ true)) → a ≡ b
same_bool true true f g = refl
same_bool false false f g = refl
same_bool true false f g = sym (f refl)
same_bool false true f g = g refl

same_flags : (xs ys : List Bool) → length xs ≡ length ys → ((k : ℕ) → k < length xs → get_or xs k false ≡ get_or ys k false) → xs ≡ ys
same_flags [] [] e same = refl
same_flags [] (y ∷ ys) e same = absurd (omega arith)
same_flags (x ∷ xs) [] e same = absurd (omega arith)
same_flags (x ∷ xs) (y ∷ ys) e same = ap (λ h. h ∷ xs) (same 0 (omega arith)) ∙ ap (λ t. y ∷ t) (same_flags xs ys (omega arith) (λ k low. same (suc k) (omega arith)))

-- there is one list of flags
pub one_flagged : (Leads : ℕ → ℕ → Type 0) (few count : ℕ) (a b : List Bool) → AreFlagged Leads few count a → AreFlagged Leads few count b → a ≡ b
one_flagged Leads few count a b x y = same_flags a b (x.size ∙ sym y.size)
    (λ k low. same_bool (get_or a k false) (get_or b k false)
    (λ e. (y.each k (let s = x.size in omega arith)).1 ((x.each k (let s = x.size in omega arith)).0 e))
    (λ e. (x.each k (let s = x.size in omega arith)).1 ((y.each k (let s = x.size in omega arith)).0 e)))

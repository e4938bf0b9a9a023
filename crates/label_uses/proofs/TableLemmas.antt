-- The first label of each name in each function, as labels are met.
use Rattle.std.proofs.Common.{◌≡◌, ℕ, ◌<◌, ◌≤◌, ◌+◌, List, Option, Some, None, unwrap_or, sym, ap, ◌∙◌, subst, inl, inr, arith}
use Rattle.label_uses.proofs.CaseLemmas.{before_or_at, before_or_not}
use Rattle.label_uses.specs.Tables.{Adds, FirstBelow, AreFirst}

-- where n is a label of the function and the name
with_one : (Is : ℕ → List ℕ → Type 0) (function : ℕ → ℕ) (n f : ℕ) (q : List ℕ) (old : Option ℕ) → Is n q → function n ≡ f → FirstBelow Is function n f q old → FirstBelow Is function (n + 1) f q (Some (unwrap_or old n))
with_one Is function n f q None is fun none = (is, fun, omega arith, none)
with_one Is function n f q (Some l) is fun (was, its, low, first) = (was, its, omega arith, first)

-- where it is none
with_none : (Is : ℕ → List ℕ → Type 0) (function : ℕ → ℕ) (n f : ℕ) (q : List ℕ) (old : Option ℕ) → (Is n q → function n ≡ f → ⊥) → FirstBelow Is function n f q old → FirstBelow Is function (n + 1) f q old
with_none Is function n f q None not_it none = λ e low is fun. elim (before_or_at e n low) [
  | inl before ↦ none e before is fun
  | inr here ↦ not_it (subst (λ (x : ℕ). Is x q) here is) (ap function (sym here) ∙ fun)
]
with_none Is function n f q (Some l) not_it (was, its, low, first) = (was, its, omega arith, first)

pub first_more : (Is : ℕ → List ℕ → Type 0) (function : ℕ → ℕ) (n : ℕ) (old new : ℕ → List ℕ → Option ℕ) → AreFirst Is function n old → Adds Is function n old new → AreFirst Is function (n + 1) new
first_more Is function n old new was adds f q = elim (adds f q) [
  | inl this ↦ subst (λ (o : Option ℕ). FirstBelow Is function (n + 1) f q o) (sym this.2) (with_one Is function n f q (old f q) this.0 this.1 (was f q))
  | inr other ↦ subst (λ (o : Option ℕ). FirstBelow Is function (n + 1) f q o) (sym other.1) (with_none Is function n f q (old f q) other.0 (was f q))
]

-- where no label stands among the first few
pub first_none : (Is : ℕ → List ℕ → Type 0) (function : ℕ → ℕ) (n : ℕ) (table : ℕ → List ℕ → Option ℕ) → ((f : ℕ) (q : List ℕ) → table f q ≡ None) → ((e : ℕ) (q : List ℕ) → e < n → Is e q → ⊥) → AreFirst Is function n table
first_none Is function n table empty none f q = subst (λ (o : Option ℕ). FirstBelow Is function n f q o) (sym (empty f q)) (λ e low is fun. none e q low is)

below_past : (Is : ℕ → List ℕ → Type 0) (function : ℕ → ℕ) (n m f : ℕ) (q : List ℕ) (o : Option ℕ) → n ≤ m → ((e : ℕ) (q : List ℕ) → n ≤ e → Is e q → ⊥) → FirstBelow Is function n f q o → FirstBelow Is function m f q o
below_past Is function n m f q None high none below = λ e low is fun. elim (before_or_not e n) [
  | inl before ↦ below e before is fun
  | inr past ↦ none e q past is
]
below_past Is function n m f q (Some l) high none (was, its, low, first) = (was, its, omega arith, first)

-- where none stands behind them
pub first_past : (Is : ℕ → List ℕ → Type 0) (function : ℕ → ℕ) (n m : ℕ) (table : ℕ → List ℕ → Option ℕ) → n ≤ m → ((e : ℕ) (q : List ℕ) → n ≤ e → Is e q → ⊥) → AreFirst Is function n table → AreFirst Is function m table
first_past Is function n m table high none was f q = below_past Is function n m f q (table f q) high none (was f q)

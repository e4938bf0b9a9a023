-- The names of results by function, as they are met.
use Rattle.std.proofs.Common.{◌≡◌, ℕ, ◌+◌, ◌<◌, ◌⊎◌, List, Option, Some, None, sym, ap, ◌∙◌, subst, inl, inr, arith}
use Rattle.node_values.proofs.CaseLemmas.{before_or_at}
use Rattle.shadowed_results.specs.Tables.{IsOf, Keeps, KeptBelow, AreKept}

with_none : (name : ℕ → Option (List ℕ)) (function : ℕ → Option ℕ) (n f : ℕ) (q : List ℕ) (old : Option ℕ) → (IsOf name function n f q → ⊥) → KeptBelow name function n f q old → KeptBelow name function (n + 1) f q old
with_none name function n f q None not_it none = λ e low is. elim (before_or_at e n low) [
  | inl before ↦ none e before is
  | inr here ↦ not_it (subst (λ (x : ℕ). IsOf name function x f q) here is)
]
with_none name function n f q (Some l) not_it (low, is) = (omega arith, is)

pub kept_more : (name : ℕ → Option (List ℕ)) (function : ℕ → Option ℕ) (n : ℕ) (old new : ℕ → List ℕ → Option ℕ) → AreKept name function n old → Keeps name function n old new → AreKept name function (n + 1) new
kept_more name function n old new was keeps f q = elim (keeps f q) [
  | inl this ↦ subst (λ (o : Option ℕ). KeptBelow name function (n + 1) f q o) (sym this.1) (omega arith, this.0)
  | inr other ↦ subst (λ (o : Option ℕ). KeptBelow name function (n + 1) f q o) (sym other.1) (with_none name function n f q (old f q) other.0 (was f q))
]

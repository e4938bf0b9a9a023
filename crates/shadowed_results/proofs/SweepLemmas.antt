-- Where no declaration is denoted no region of the name holds the place.
use Rattle.std.proofs.Common.{◌≡◌, ℕ, zero, suc, ◌<◌, ◌+◌, ◌≤◌, ◌⊎◌, true, List, length, slice_get, Some, refl, sym, ap, ◌∙◌, subst, inl, inr, arith}
use Rattle.std.proofs.lemmas.Option.{slice_get_within}
use Rattle.gv_base.proofs.Lists.{same_some}
use Rattle.node_values.proofs.CaseLemmas.{three_ways}
use Rattle.scopes.specs.declared.visible.Declaration.{Declaration}
use Rattle.scopes.specs.declared.visible.Use.{Use}
use Rattle.scopes.specs.Denotes.{Holds, Within, IsRefused, HasRegion, Denotes, Inner, IsLaid}

module _ (ds : List Declaration) (laid : IsLaid ds) (u : Use) (none : (k : ℕ) → Denotes ds u k → ⊥) where
  -- of two in their regions the earlier one encloses the later
  encloses : (j k : ℕ) (e d : Declaration) → j < k → slice_get ds j ≡ Some e → HasRegion ds k d → e.name ≡ d.name → Holds e u.at → Holds d u.at → Within d e
  encloses j k e d low there region same over holds = by (laid j k e d low there region.0) where
    by : (e.start ≤ d.start) × ((e.end ≡ d.end) ⊎ ((e.end ≤ d.start) ⊎ Inner d e)) → Within d e
    by (first, inl equal) = absurd (region.1 (j, e, low, there, equal, same))
    by (first, inr (inl apart)) = let a = over.1 in let b = holds.0 in absurd (omega arith)
    by (first, inr (inr inner)) = (first, let b = inner.1 in omega arith)

  region_none : (fuel k : ℕ) (d : Declaration) → length ds ≤ k + fuel → HasRegion ds k d → d.name ≡ u.name → Holds d u.at → ⊥
  region_none zero k d end region named holds = let low = slice_get_within ds k d region.0 in absurd (omega arith)
  region_none (suc fuel) k d end region named holds = none k record {
    d = d;
    region = region;
    named = named;
    holds = holds;
    smallest = λ j e other same over. elim (three_ways j k) [
      | inl here ↦ (let one : e ≡ d = same_some (slice_get ds j) e d other.0 (ap (λ x. slice_get ds x) here ∙ region.0) in
          subst (λ (x : Declaration). Within d x) (sym one) (omega arith, omega arith))
      | inr (inl before) ↦ encloses j k e d before other.0 region (same ∙ sym named) over holds
      | inr (inr after) ↦ absurd (region_none fuel j e (omega arith) other same over)
    ];
  }

  -- one that is refused has an earlier one of its block
  holder_none : (locals : (j : ℕ) (e : Declaration) → slice_get ds j ≡ Some e → e.name ≡ u.name → e.local ≡ true) (fuel k : ℕ) (d : Declaration) → k < fuel → slice_get ds k ≡ Some d → d.name ≡ u.name → Holds d u.at → ⊥
  holder_none locals zero k d low there named holds = absurd (omega arith)
  holder_none locals (suc fuel) k d low there named holds =
      region_none (length ds) k d (omega arith) (
        there,
        (λ (j, e, before, there_e, block, same).
            let lies = (laid j k e d before there_e there).0 in
            holder_none locals fuel j e (omega arith) there_e (same ∙ named) (let s = holds.0 in omega arith, let t = holds.1 in omega arith)),
        locals k d there named,
      ) named holds

  pub no_holder : ((j : ℕ) (e : Declaration) → slice_get ds j ≡ Some e → e.name ≡ u.name → e.local ≡ true) → (k : ℕ) (d : Declaration) → slice_get ds k ≡ Some d → d.name ≡ u.name → Holds d u.at → ⊥
  no_holder locals k d there named holds = holder_none locals (suc k) k d (omega arith) there named holds

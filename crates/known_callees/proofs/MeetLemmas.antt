-- One closed set that has, of each of some packages, what is told of it alone.
use Rattle.std.proofs.Common.{◌≡◌, inl, inr, ◌<◌, ℕ, zero, suc, ◌&&◌, Bool, true, List, Option, Some, None, slice_get, refl, sym, ap, ◌∙◌, subst, arith}
use Rattle.std.specs.List.{Contains}
use Rattle.std.proofs.lemmas.Bool.{cases_eq}
use Rattle.fact_codec.specs.Texts.{AreFacts}
use Rattle.handed_facts.specs.Handed.{Named, Facts, entry, entries_of}
use Rattle.least.specs.Least.{IsClosed, IsMonotone}
use Rattle.least.specs.Tables.{Member}
use Rattle.own_functions.proofs.NameLemmas.{both_true}
use Rattle.known_callees.specs.Telling.{TellsLeast}
use Rattle.known_callees.proofs.EntryLemmas.{ReadsOnce}
use Rattle.known_callees.proofs.Words.{both_so, no_some, same_some}

module _ {F : Type 0} (spelling kinds : F → List ℕ) (once : ReadsOnce spelling) (whole : (Member → Bool) → Member → Type 0) (grows : IsMonotone whole) (given : List Named)
    (below : (k : ℕ) (x : Named) → slice_get given k ≡ Some x → TellsLeast spelling kinds whole x.0 x.1) where
  -- the names that are told of the package at a place
  abbrev IsToldAt : (k : ℕ) (x : Named) → slice_get given k ≡ Some x → Member → Type 0
  IsToldAt k x e m = Contains (entries_of kinds (below k x e).table) (entry m.name m.kind)

  pub record IsMet (n : ℕ) : Type 0 where
    pub set : Member → Bool
    pub closed : IsClosed whole set
    pub exact : (k : ℕ) (x : Named) (e : slice_get given k ≡ Some x) → k < n → (m : Member) → m.path ≡ x.0 → set m ≡ true → IsToldAt k x e m

  -- a place is before the last, or the last
  last_or : {C : Type 0} (k n : ℕ) → k < suc n → (k < n → C) → (k ≡ n → C) → C
  last_or k n low f g = elim (cases_eq k n) [ inl e ↦ g e | inr ne ↦ f (omega arith) ]

  met_none : (n : ℕ) → slice_get given n ≡ None → IsMet n → IsMet (suc n)
  met_none n none was = record {
    set = was.set;
    closed = was.closed;
    exact = λ k x e low m path is. last_or k n low (λ before. was.exact k x e before m path is) (λ same. no_some x (sym (subst (λ (j : ℕ). slice_get given j ≡ None) (sym same) none) ∙ e));
  }

  met_some : (n : ℕ) (x : Named) → slice_get given n ≡ Some x → IsMet n → IsMet (suc n)
  met_some n x there was = record {
    set = both;
    closed = λ m w. both_so (was.set m) ((below n x there).set m) (was.closed m (grows both was.set m (λ f e. (split f e).0) w)) ((below n x there).closed m (grows both (below n x there).set m (λ f e. (split f e).1) w));
    exact = λ k y e low m path is. last_or k n low
        (λ before. was.exact k y e before m path (split m is).0)
        (λ same.
        let one : x ≡ y = same_some x y (sym there ∙ (ap (slice_get given) (sym same) ∙ e)) in
        let told : Contains (entries_of kinds (below n x there).table) (entry m.name m.kind) = (below n x there).only m (path ∙ ap (λ (z : Named). z.0) (sym one)) (split m is).1 in
        let tables : (below n x there).table ≡ (below k y e).table =
        once y.1 (below n x there).table (below k y e).table (subst (λ (z : Named). AreFacts spelling (below n x there).table z.1) one (below n x there).spelled) (below k y e).spelled in
        subst (λ (t : Facts F). Contains (entries_of kinds t) (entry m.name m.kind)) tables told);
  } where
    both : Member → Bool
    both m = was.set m && (below n x there).set m

    split : (m : Member) → both m ≡ true → (was.set m ≡ true) × ((below n x there).set m ≡ true)
    split m e = both_true (was.set m) ((below n x there).set m) e

  pub met : (n : ℕ) → IsMet n
  met zero = record { set = λ m. true; closed = λ m w. refl; exact = λ k x e low m path is. absurd (omega (arith, low)) }
  met (suc n) = by (slice_get given n) refl (met n) where
    by : (o : Option Named) → slice_get given n ≡ o → IsMet n → IsMet (suc n)
    by None none before = met_none n none before
    by (Some x) there before = met_some n x there before

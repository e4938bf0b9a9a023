-- Tables hand in the members of the environment.
use Rattle.std.proofs.Common.{◌≡◌, ℕ, Bool, true, false, List, refl, sym, ap, ◌∙◌, subst, arith}
use Rattle.least.specs.Staged.{IsHandedIn, IsOrder, IsLeastIn, AreStaged}
use Rattle.least.specs.Tables.{Member, member, home, Entry, Table, IsTold, AreTablesOf, AreFoundByTables}

same_bool : (a b : Bool) → (a ≡ true → b ≡ true) → (b ≡ true → a ≡ true) → a ≡ b
same_bool true b f g = sym (f refl)
same_bool false true f g = let no_truth : false ≡ true = g refl in absurd cc
same_bool false false f g = refl

not_so : (a : Bool) → (a ≡ true → ⊥) → a ≡ false
not_so true no_a = absurd (no_a refl)
not_so false no_a = refl

abbrev entry : List ℕ → ℕ → Entry
entry n k = record { name = n; kind = k }

pub handed_in : (env : List ℕ → List ℕ → Type 0) (p : List ℕ) (found : List ℕ → Member → Bool) (tables : List Table) (given : Member → Bool)
    → (env p p → ⊥) → IsTold tables given → AreTablesOf env p found tables → IsHandedIn home env p given (λ m. found (home m) m)
handed_in env p found tables given apart told of = record {
  right = λ m e. same_bool (given m) (found m.path m)
      (λ g. let t = (told m).0 g in subst (λ (n : Member). found n.path n ≡ true) t.is ((of.right t.table t.entry t.here).0 t.listed))
      (λ is. let t = of.every m.path e in
      let same : member t.0.path m.name m.kind ≡ m = ap (λ q. member q m.name m.kind) t.2 in
      (told m).1 (record { table = t.0; entry = entry m.name m.kind; here = t.1; listed = (of.right t.0 (entry m.name m.kind) t.1).1 (subst (λ (n : Member). found n.path n ≡ true) (sym same) is); is = same }));
  own = λ m at. not_so (given m)
      (λ g. let t = (told m).0 g in
      let path : t.table.path ≡ m.path = ap (λ (n : Member). n.path) t.is in
      apart (subst (env p) (path ∙ at) (of.below t.table t.here)));
}

pub staged_by_tables : (env : List ℕ → List ℕ → Type 0) (admits : (Member → Bool) → Member → Type 0) (rank : List ℕ → ℕ) (tables : List ℕ → List Table) (given found : List ℕ → Member → Bool)
    → IsOrder env rank → AreFoundByTables env (IsLeastIn home admits) tables given found → AreStaged home env admits given found
staged_by_tables env admits rank tables given found order a = record {
  found_in = a.each;
  handed = λ p. handed_in env p found (tables p) (given p) (λ e. absurd (let lt = order p p e in omega arith)) (a.told p) (a.of p);
}

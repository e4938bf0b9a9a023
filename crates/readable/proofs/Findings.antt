-- Something is found of the pieces of each row of tokens. That there is a tree, or none, isn't decided here: what is denied is that nothing is found.
use Rattle.std.proofs.Common.{◌≡◌, ℕ, suc, ◌+◌, ◌<◌, ◌≤◌, inl, inr, Bool, true, false, cond, List, [], ◌∷◌, length, refl, ap, sym, ◌∙◌, subst, arith, max}
use Rattle.std.specs.Prelude.{◌==◌, ◌&&◌}
use Rattle.std.proofs.Math.Nat.{max-le, le-max_left, le-max_right}
use Rattle.std.proofs.lemmas.Bool.{cases_lt}
use Rattle.go_tree.specs.declared.grammar.Stage.{Stage}
use Rattle.go_tree.specs.declared.grammar.Stage.TheVariants.{Clause, Imports, Declarations}
use Rattle.go_tree.specs.Arena.{depth}
use Rattle.go_tree.specs.Forest.{Forest, Empty, Grow, ◌⊕◌}
use Rattle.go_tree.specs.Pieces.{depth_limit, deeper, onto, pieces, after, IsEnough, SpellsPiece, SpellsPieces, Finding, Fine, Syntax, TooDeep, Finds}

-- ---- something is found

-- what is found of what stands after the last semicolon
last_found : (s : Stage) (at : ℕ) (p : List ℕ) → ((v : Finding) → Finds s at (p ∷ []) v → ⊥) → ⊥
last_found Clause at p none = none (Syntax at) (inr (refl, λ h. h.0))
last_found Imports at [] none = none Fine (inl (refl, tt, refl))
last_found Imports at (c ∷ cs) none = none (Syntax at) (inr (refl, λ h. (let e : c ∷ cs ≡ [] = h.1 in cc)))
last_found Declarations at [] none = none Fine (inl (refl, tt, refl))
last_found Declarations at (c ∷ cs) none = none (Syntax at) (inr (refl, λ h. (let e : c ∷ cs ≡ [] = h.1 in cc)))

pub found : (s : Stage) (at : ℕ) (p : List ℕ) (ps : List (List ℕ)) → ((v : Finding) → Finds s at (p ∷ ps) v → ⊥) → ⊥
found s at p [] none = last_found s at p none
found s at p (q ∷ ps) none =
    let more = found (after s p) (at + length p + 1) q ps in
    none (Syntax at) (inl (
      refl,
      λ g spells. elim (cases_lt depth_limit (depth g)) [
        | inl deep ↦ none (TooDeep at) (inr (inl (refl, g, spells, deep)))
        | inr low ↦ more (λ v finds. none v (inr (inr (g, spells, low, finds))))
      ],
    ))

-- ---- there is a piece

pub record Some (ps : List (List ℕ)) : Type 0 where
  pub p : List ℕ
  pub more : List (List ℕ)
  pub is : ps ≡ p ∷ more

onto_some : (c : ℕ) (ps : List (List ℕ)) → Some (onto c ps)
onto_some c [] = record { p = c ∷ []; more = []; is = refl }
onto_some c (p ∷ ps) = record { p = c ∷ p; more = ps; is = refl }

some_piece : (b : Bool) (c d : ℕ) (cs : List ℕ) → Some (cond b ([] ∷ pieces 0 cs) (onto c (pieces d cs)))
some_piece true c d cs = record { p = []; more = pieces 0 cs; is = refl }
some_piece false c d cs = onto_some c (pieces d cs)

pub pieces_some : (d : ℕ) (cs : List ℕ) → Some (pieces d cs)
pieces_some d [] = record { p = []; more = []; is = refl }
pieces_some d (c ∷ cs) = some_piece (c == 31 && d == 0) c (deeper d c) cs

-- ---- where all is fine there is a tree of the file

depth_both : (f g : Forest) (k : ℕ) → depth f ≤ k → depth g ≤ k → depth (f ⊕ g) ≤ k
depth_both Empty g k low high = high
depth_both (Grow kind a b ps f) g k low high =
    let left = le-max_left (suc (depth ps)) (depth f) in
    let right = le-max_right (suc (depth ps)) (depth f) in
    max-le (let h : suc (depth ps) ≤ k = omega (arith, low, left) in h) (depth_both f g k (omega (arith, low, right)) high)

-- trees of pieces, none of them too deep
pub record Trees (s : Stage) (at : ℕ) (ps : List (List ℕ)) : Type 0 where
  pub forest : Forest
  pub spelled : SpellsPieces s at ps forest
  pub shallow : depth forest ≤ depth_limit

pub trees : (s : Stage) (at : ℕ) (ps : List (List ℕ)) → Finds s at ps Fine → Trees s at ps
trees s at [] finds = absurd finds
trees s at (p ∷ []) finds = elim finds [
  | inl fine ↦ record { forest = Empty; spelled = (fine.1, fine.2, refl); shallow = omega arith }
  | inr fault ↦ (let e : Fine ≡ Syntax at = fault.0 in absurd (cc))
]
trees s at (p ∷ (q ∷ ps)) finds =
    let more = trees (after s p) (at + length p + 1) (q ∷ ps) in
    elim finds [
      | inl fault ↦ (let e : Fine ≡ Syntax at = fault.0 in absurd (cc))
      | inr rest ↦ elim rest [
        | inl deep ↦ (let e : Fine ≡ TooDeep at = deep.0 in absurd (cc))
        | inr fine ↦ (let t = more fine.3 in record { forest = fine.0 ⊕ t.forest; spelled = (fine.0, t.forest, fine.1, t.spelled, refl); shallow = depth_both fine.0 t.forest depth_limit fine.2 t.shallow })
      ]
    ]

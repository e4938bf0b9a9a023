-- Interfaces by path, and their constants by name.
use Rattle.std.proofs.Common.{◌≡◌, ℕ, zero, suc, ◌+◌, ◌⊎◌, List, [], ◌∷◌, ◌++◌, length, slice_get, Option, Some, refl, sym, ap, ◌∙◌, subst, inl, inr, arith}
use Rattle.std.specs.HashMap.{HashMap}
use Rattle.std.proofs.lemmas.List.{length_push}
use denote.Ref.{Bor}
use Rattle.package_faces.specs.declared.interface.Interface.{Interface}
use Rattle.unit_read.specs.Environments.{IsMember, ListsMembers}

pub same_some : {X : Type 0} (o : Option X) (a b : X) → o ≡ Some a → o ≡ Some b → a ≡ b
same_some o a b p q = cc

pub push_cases : {X : Type 0} (xs : List X) (y z : X) (o : ℕ) → slice_get (xs ++ y ∷ []) o ≡ Some z → (slice_get xs o ≡ Some z) ⊎ ((o ≡ length xs) × (z ≡ y))
push_cases [] y z zero h = inr (refl, cc)
push_cases [] y z (suc o) h = absurd cc
push_cases (x ∷ xs) y z zero h = inl h
push_cases (x ∷ xs) y z (suc o) h = elim (push_cases xs y z o h) [
  | inl before ↦ inl before
  | inr (at, same) ↦ inr (omega arith, same)
]

pub members_more : {S : Type 0} (interfaces : List Interface) (k : ℕ) (old new : List (HashMap (Bor (List ℕ)) ℕ S)) (i : Interface) (names : HashMap (Bor (List ℕ)) ℕ S)
    → ListsMembers interfaces k old → slice_get interfaces k ≡ Some i → IsMember i names → new ≡ old ++ names ∷ [] → ListsMembers interfaces (k + 1) new
members_more interfaces k old new i names lists read is push = record {
  size = ap length push ∙ (length_push old names ∙ ap (λ n. n + 1) lists.size);
  each = λ j other row there stands.
      elim (push_cases old names row j (ap (λ (xs : List (HashMap (Bor (List ℕ)) ℕ _)). slice_get xs j) (sym push) ∙ stands)) [
        | inl before ↦ lists.each j other row there before
        | inr (at, same) ↦
            let e : i ≡ other = same_some (slice_get interfaces k) i other read (ap (slice_get interfaces) (sym (at ∙ lists.size)) ∙ there) in
            subst (λ (x : Interface). IsMember x row) e (subst (λ (x : HashMap (Bor (List ℕ)) ℕ _). IsMember i x) (sym same) is)
      ];
}

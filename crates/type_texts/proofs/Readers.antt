-- Readers made of readers read what is spelled.
use Rattle.std.proofs.Common.{◌≡◌, ℕ, Bool, true, cond, eqb, IsTrue, List, [], ◌∷◌, ◌++◌, length, Option, Some, None, refl, sym, ap, subst, ◌∙◌, inl, inr, append_assoc}
use Rattle.std.proofs.lemmas.Bool.{eqb-true}
use Rattle.std.proofs.lemmas.List.{append-nil, nil_from_length}
use Rattle.gv_bytes.specs.Reading.{◌>>=◌, Reads}
use Rattle.gv_bytes.proofs.Options.{bind_some, chosen, some_is, chain}
use Rattle.type_texts.specs.Readers.{Reader, seq_at, via_at, part_at, kept_at, tagged_at, whole_at}

-- one after another
pub seq : {A B : Type 0} {P : A → Type 0} {Q : B → Type 0} {s : A → List ℕ} {t : B → List ℕ} {a : Reader A} {b : Reader B} → Reads P s a → Reads Q t b
    → Reads (λ x. P x.0 × Q x.1) (λ x. s x.0 ++ t x.1) (seq_at a b)
seq {A} {B} {P} {Q} {s} {t} {a} {b} r q = record {
  takes = λ bytes x e.
      let m = bind_some (a bytes) (λ x. b x.1 >>= λ y. Some ((x.0, y.0), y.1)) x e in
      let n = bind_some (b m.0.1) (λ y. Some ((m.0.0, y.0), y.1)) x m.2 in
      let u = r.takes bytes m.0 m.1 in
      let v = q.takes m.0.1 n.0 n.1 in
      subst (λ (z : (A × B) × List ℕ). (bytes ≡ (s z.0.0 ++ t z.0.1) ++ z.1) × (P z.0.0 × Q z.0.1)) (some_is ((m.0.0, n.0.0), n.0.1) x n.2)
      (chain bytes (s m.0.0) m.0.1 (t n.0.0) n.0.1 u.0 v.0, (u.1, v.1));
  again = λ x rest fits. ap (seq_at a b) (append_assoc (s x.0) (t x.1) rest) ∙ rw (r.again x.0 (t x.1 ++ rest) fits.0, q.again x.1 rest fits.1) refl;
}

-- of another value, which is as good
pub via : {A B : Type 0} {P : A → Type 0} {s : A → List ℕ} {a : Reader A} (to : A → B) (from : B → A) → ((x : A) → P x → from (to x) ≡ x) → ((y : B) → to (from y) ≡ y) → Reads P s a
    → Reads (λ y. P (from y)) (λ y. s (from y)) (via_at to a)
via {A} {B} {P} {s} {a} to from back forth r = record {
  takes = λ bytes y e.
      let m = bind_some (a bytes) (λ x. Some (to x.0, x.1)) y e in
      let u = r.takes bytes m.0 m.1 in
      let same = back m.0.0 u.1 in
      subst (λ (z : B × List ℕ). (bytes ≡ s (from z.0) ++ z.1) × P (from z.0)) (some_is (to m.0.0, m.0.1) y m.2)
      (u.0 ∙ ap (λ (x : A). s x ++ m.0.1) (sym same), subst P (sym same) u.1);
  again = λ y rest fits. ap (λ (o : Option (A × List ℕ)). o >>= λ x. Some (to x.0, x.1)) (r.again (from y) rest fits) ∙ ap (λ (z : B). Some (z, rest)) (forth y);
}

-- of another value, where there is one
pub part : {A B : Type 0} {P : A → Type 0} {s : A → List ℕ} {a : Reader A} (to : A → Option B) (from : B → A) → ((x : A) (y : B) → to x ≡ Some y → from y ≡ x) → ((y : B) → to (from y) ≡ Some y) → Reads P s a
    → Reads (λ y. P (from y)) (λ y. s (from y)) (part_at to a)
part {A} {B} {P} {s} {a} to from back forth r = record {
  takes = λ bytes y e.
      let m = bind_some (a bytes) (λ x. to x.0 >>= λ z. Some (z, x.1)) y e in
      let n = bind_some (to m.0.0) (λ z. Some (z, m.0.1)) y m.2 in
      let u = r.takes bytes m.0 m.1 in
      let same = back m.0.0 n.0 n.1 in
      subst (λ (z : B × List ℕ). (bytes ≡ s (from z.0) ++ z.1) × P (from z.0)) (some_is (n.0, m.0.1) y n.2)
      (u.0 ∙ ap (λ (x : A). s x ++ m.0.1) (sym same), subst P (sym same) u.1);
  again = λ y rest fits.
      ap (λ (o : Option (A × List ℕ)). o >>= λ x. to x.0 >>= λ z. Some (z, x.1)) (r.again (from y) rest fits)
      ∙ ap (λ (o : Option B). o >>= λ z. Some (z, rest)) (forth y);
}

-- the same reader of fewer values, or with another name for its text
pub again_as : {A : Type 0} {P Q : A → Type 0} {s : A → List ℕ} {a : Reader A} → ((x : A) → P x → Q x) → ((x : A) → Q x → P x) → Reads P s a → Reads Q s a
again_as to from r = record { takes = λ bytes x e. let t = r.takes bytes x e in (t.0, to x.0 t.1); again = λ x rest fits. r.again x rest (from x fits) }

-- kept by a test
pub kept : {A : Type 0} {P : A → Type 0} {s : A → List ℕ} {a : Reader A} (test : A → Bool) → Reads P s a → Reads (λ x. P x × IsTrue (test x)) s (kept_at test a)
kept {A} {P} {s} {a} test r = record {
  takes = λ bytes x e.
      let m = bind_some (a bytes) (λ x. cond (test x.0) (Some x) None) x e in
      let u = r.takes bytes m.0 m.1 in
      elim (chosen (test m.0.0) (Some m.0) None (Some x) m.2) [
        | inl p ↦ subst (λ (z : A × List ℕ). (bytes ≡ s z.0 ++ z.1) × (P z.0 × IsTrue (test z.0))) (some_is m.0 x p.1) (u.0, (u.1, p.0))
        | inr p ↦ absurd cc
      ];
  again = λ x rest fits. let holds : test x ≡ true = fits.1 in rw (r.again x rest fits.0, holds) refl;
}

-- by the byte in front
pub tagged : {A : Type 0} {P : A → Type 0} {s : A → List ℕ} (mark : A → ℕ) (body : ℕ → Reader A)
    → ((c : ℕ) (rest : List ℕ) (y : A × List ℕ) → body c rest ≡ Some y → (mark y.0 ≡ c) × (rest ≡ s y.0 ++ y.1) × P y.0)
    → ((x : A) (rest : List ℕ) → P x → body (mark x) (s x ++ rest) ≡ Some (x, rest)) → Reads P (λ x. mark x ∷ s x) (tagged_at body)
tagged {A} {P} {s} mark body takes again = record { takes = take; again = again }
  where
    take : (bytes : List ℕ) (y : A × List ℕ) → tagged_at body bytes ≡ Some y → (bytes ≡ mark y.0 ∷ (s y.0 ++ y.1)) × P y.0
    take [] y e = absurd cc
    take (c ∷ rest) y e = let t = takes c rest y e in (rw (t.0, t.1) refl, t.2)

-- all of the bytes
pub whole_take : {A : Type 0} {P : A → Type 0} {s : A → List ℕ} {a : Reader A} → Reads P s a → (bytes : List ℕ) (x : A) → whole_at a bytes ≡ Some x → P x × (bytes ≡ s x)
whole_take {A} {P} {s} {a} r bytes x e =
    let m = bind_some (a bytes) (λ x. cond (eqb (length x.1) 0) (Some x.0) None) x e in
    let u = r.takes bytes m.0 m.1 in
    elim (chosen (eqb (length m.0.1) 0) (Some m.0.0) None (Some x) m.2) [
      | inl p ↦
          let nothing : m.0.1 ≡ [] = nil_from_length m.0.1 (eqb-true _ _ p.0) in
          subst (λ (z : A). P z × (bytes ≡ s z)) (some_is m.0.0 x p.1) (u.1, u.0 ∙ ap (λ (t : List ℕ). s m.0.0 ++ t) nothing ∙ append-nil (s m.0.0))
      | inr p ↦ absurd cc
    ]

pub whole_again : {A : Type 0} {P : A → Type 0} {s : A → List ℕ} {a : Reader A} → Reads P s a → (x : A) → P x → whole_at a (s x) ≡ Some x
whole_again {A} {P} {s} {a} r x fits =
    let read : a (s x) ≡ Some (x, []) = ap a (sym (append-nil (s x))) ∙ r.again x [] fits in
    rw read refl

-- Types that a class has as they stand.
use Rattle.std.proofs.Common.{◌≡◌, ◌⊎◌, ◌↔◌, ◌<◌, ◌≤◌, inl, inr, ℕ, zero, suc, Bool, true, false, ◌&&◌, ◌||◌, List, [], ◌∷◌, length, Some, None, refl, sym, subst, arith}
use Rattle.std.specs.Prelude.{slice_get}
use Rattle.type_model.specs.declared.table.TypeTable.{TypeTable}
use Rattle.type_model.specs.Tables.{count, declarations_in}
use Rattle.vet_printf.specs.declared.asking.Asked.{Asked}
use Rattle.vet_printf.specs.declared.asking.Wanted.TheVariants as w
use Rattle.vet_printf.specs.declared.verb.Class.{Class}
use Rattle.vet_printf.specs.Verbs.{takes_text}
use Rattle.vet_printf.specs.Fitting.{fits_type, Has, IsFit}
use Rattle.vet_printf.specs.InTable.{AreEach, ty, IsAsked, IsFitAt}

by_parts : (a f h x : Bool) (F T : Type 0) → (f ≡ true) ↔ F → (x ≡ true) ↔ T → ((a || (f || (h && x))) ≡ true) ↔ ((a ≡ true) ⊎ (F ⊎ ((h ≡ true) × T)))
by_parts true f h x F T tf tx = (λ e. inl refl, λ s. refl)
by_parts false true h x F T tf tx = (λ e. inr (inl (tf.0 refl)), λ s. refl)
by_parts false false true true F T tf tx = (λ e. inr (inr (refl, tx.0 refl)), λ s. refl)
by_parts false false true false F T tf tx = (λ e. absurd (cc), λ s. elim s [ inl e ↦ e | inr (inl f) ↦ tf.1 f | inr (inr r) ↦ tx.1 r.1 ])
by_parts false false false x F T tf tx = (λ e. absurd (cc), λ s. elim s [ inl e ↦ e | inr (inl f) ↦ tf.1 f | inr (inr r) ↦ r.0 ])

pub fit_told : (t : TypeTable) (class : Class) (n : ℕ) (x : Asked) (b : Bool) → IsAsked t n x → b ≡ (fits_type (declarations_in t) class (ty t n) || (x.format || (takes_text class && x.text))) → IsFitAt t class n b
fit_told t class n x b asked is = subst (λ (y : Bool). IsFitAt t class n y) (sym is)
    (by_parts (fits_type (declarations_in t) class (ty t n)) x.format (takes_text class) x.text (Has (declarations_in t) (ty t n) w.Format) (Has (declarations_in t) (ty t n) w.Text) asked.format asked.text)

pub past : {X : Type 0} (xs : List X) (n : ℕ) → slice_get xs n ≡ None → length xs ≤ n
past [] n e = omega arith
past (x ∷ xs) zero e = absurd (cc)
past (x ∷ xs) (suc n) e = let high = past xs n e in omega (arith, high)

pub not_past : {X : Type 0} (P : ℕ → X → Type 0) (total n : ℕ) (xs : List X) → AreEach P total xs → n < total → slice_get xs n ≡ None → ⊥
not_past P total n xs are low e = let high = past xs n e in let size = are.size in omega (arith, low, high, size)

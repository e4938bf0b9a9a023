-- Arguments of a type, by whether that is fit, and by what it stands for.
use Rattle.std.proofs.Common.{if◌then◌else◌, ◌≡◌, ◌↔◌, ℕ, Bool, true, false, not, ◌||◌, Option, Some, None, refl, sym, ap, ◌∙◌, subst}
use Rattle.std.specs.Prelude.{option_and_then, unwrap_or}
use Rattle.type_model.specs.declared.table.TypeTable.{TypeTable}
use Rattle.type_model.specs.GoTypes.{GoType, BasicType, DefinedType, PointerTo, SliceOf, ArrayOf, MapOf, ChanOf, FuncOf, StructOf, InterfaceOf}
use Rattle.type_model.specs.Declarations.{Declarations, under_of}
use Rattle.type_model.specs.Tables.{declarations_in}
use Rattle.vet_printf.specs.declared.verb.Class.{Class}
use Rattle.vet_printf.specs.Fitting.{is_parted_type, parted_behind, pointed, IsFit, Fails, Alone, Suits}
use Rattle.vet_printf.specs.InTable.{ty, IsFitAt, IsSuited, TellsFailing}
use Rattle.vet_printf.proofs.ReaderLemmas.{same_some}

not_both : {C : Type 0} (b : Bool) → b ≡ true → b ≡ false → C
not_both b e f = absurd cc

by_flags : (ds : Declarations) (class : Class) (of behind : GoType) (f g : Bool) → behind ≡ unwrap_or (pointed ds of) of → (f ≡ true) ↔ IsFit ds class of
    → (g ≡ true → (Fails ds class behind → ⊥) → ⊥) → (g ≡ false → Fails ds class behind → ⊥) → ((f || not g) ≡ true) ↔ Suits ds class of
by_flags ds class of behind true g is fit failing other = (λ e fails. fails.0 (fit.0 refl), λ s. refl)
by_flags ds class of behind false false is fit failing other = (λ e fails. other refl (subst (λ (x : GoType). Fails ds class x) (sym is) fails.1), λ s. refl)
by_flags ds class of behind false true is fit failing other = (
  λ e. absurd (cc),
  λ s. absurd (failing refl (λ fails. s (λ is_fit. no_truth (fit.1 is_fit), subst (λ (x : GoType). Fails ds class x) is fails))),
) where
  no_truth : false ≡ true → ⊥
  no_truth e = cc

-- a type that is fit
pub suited_fit : (t : TypeTable) (class : Class) (n : ℕ) (f : Bool) → IsFitAt t class n f → f ≡ true → IsSuited t class n true
suited_fit t class n f fit is = (λ e fails. fails.0 (fit.0 is), λ s. refl)

-- one that stands for what has parts
pub suited_parts : (t : TypeTable) (class : Class) (n m : ℕ) (f g : Bool) → ty t m ≡ unwrap_or (pointed (declarations_in t) (ty t n)) (ty t n) → IsFitAt t class n f → f ≡ false → TellsFailing t class m g → IsSuited t class n (not g)
suited_parts t class n m f g is fit out tells =
    subst (λ (x : Bool). IsSuited t class n x) (ap (λ (b : Bool). b || not g) out)
    (by_flags (declarations_in t) class (ty t n) (ty t m) f g is fit tells.failing tells.other)

-- ---- one without parts

parted_if : (ds : Declarations) (of b : GoType) → (if is_parted_type ds of then Some of else None) ≡ Some b → is_parted_type ds b ≡ true
parted_if ds of b e = by (is_parted_type ds of) refl e where
  by : (p : Bool) → is_parted_type ds of ≡ p → (if p then Some of else None) ≡ Some b → is_parted_type ds b ≡ true
  by true is e = subst (λ (g : GoType). is_parted_type ds g ≡ true) (same_some e) is
  by false is e = absurd (cc)

parted_of : (ds : Declarations) (u b : GoType) → parted_behind ds u ≡ Some b → is_parted_type ds b ≡ true
parted_of ds (BasicType kind) b e = absurd (cc)
parted_of ds (DefinedType name) b e = absurd (cc)
parted_of ds (PointerTo of) b e = parted_if ds of b e
parted_of ds (SliceOf of) b e = absurd (cc)
parted_of ds (ArrayOf size of) b e = absurd (cc)
parted_of ds (MapOf key of) b e = absurd (cc)
parted_of ds (ChanOf direction of) b e = absurd (cc)
parted_of ds (FuncOf of) b e = absurd (cc)
parted_of ds (StructOf fields) b e = absurd (cc)
parted_of ds (InterfaceOf methods) b e = absurd (cc)

parted_under : (ds : Declarations) (o : Option GoType) (b : GoType) → option_and_then (parted_behind ds) o ≡ Some b → is_parted_type ds b ≡ true
parted_under ds None b e = absurd (cc)
parted_under ds (Some u) b e = parted_of ds u b e

-- what stands for something without parts stands for itself
itself : (ds : Declarations) (of : GoType) (o : Option GoType) → pointed ds of ≡ o → is_parted_type ds (unwrap_or o of) ≡ false → unwrap_or o of ≡ of
itself ds of None is alone = refl
itself ds of (Some b) is alone = not_both (is_parted_type ds b) (parted_under ds (under_of ds of) b is) alone

pub suited_alone : (t : TypeTable) (class : Class) (n m : ℕ) (f parted : Bool) → ty t m ≡ unwrap_or (pointed (declarations_in t) (ty t n)) (ty t n) → IsFitAt t class n f → f ≡ false
    → parted ≡ is_parted_type (declarations_in t) (ty t m) → parted ≡ false → IsSuited t class n false
suited_alone t class n m f parted is fit out told alone = (λ e. absurd (cc), λ s. absurd (s (not_fit, fails))) where
  ds : Declarations
  ds = declarations_in t

  not_fit : IsFit ds class (ty t n) → ⊥
  not_fit is_fit = not_both f (fit.1 is_fit) out

  no_parts : is_parted_type ds (unwrap_or (pointed ds (ty t n)) (ty t n)) ≡ false
  no_parts = subst (λ (g : GoType). is_parted_type ds g ≡ false) is (sym told ∙ alone)

  same : unwrap_or (pointed ds (ty t n)) (ty t n) ≡ ty t n
  same = itself ds (ty t n) (pointed ds (ty t n)) refl no_parts

  fails : Fails ds class (unwrap_or (pointed ds (ty t n)) (ty t n))
  fails = subst (λ (g : GoType). Fails ds class g) (sym same) (Alone (ty t n) not_fit (subst (λ (g : GoType). is_parted_type ds g ≡ false) same no_parts))

-- Copies of locks, as they are found.
use Rattle.std.proofs.Common.{◌≡◌, ◌↔◌, ◌<◌, ◌+◌, ℕ, Bool, true, false, List, [], ◌++◌, Option, Some, None, refl, sym, subst, inl, inr, arith}
use Rattle.std.specs.List.{Contains}
use Rattle.std.specs.List.Sorted.{IsStrictlySortedBy}
use Rattle.std.proofs.lemmas.Bool.{cases_eq}
use Rattle.gv_base.proofs.Lists.{same_some}
use Rattle.go_tree.specs.declared.tree.Node.{Node}
use Rattle.go_tree.specs.declared.tree.NodeRef.{NodeRef}
use Rattle.type_model.specs.GoTypes.{GoType}
use Rattle.type_model.specs.Declarations.{Declarations}
use Rattle.typed_marks.specs.declared.item.Item.{Item}
use Rattle.typed_marks.specs.Meanings.{Meaning}
use Rattle.unit_read.specs.Units.{Unit}
use Rattle.selected_methods.specs.Selected.{declared_by}
use Rattle.analysis_core.specs.declared.diagnostic.Diagnostic.{Diagnostic}
use Rattle.analysis_core.specs.FoundOrder.{order}
use Rattle.findings.specs.Gains.{Gains}
use Rattle.findings.specs.InCode.{reported_below}
use Rattle.findings.proofs.ReportLemmas.{is_below}
use Rattle.findings.proofs.GainLemmas.{gains_none, gains_as, gains_list}
use Rattle.lock_types.specs.Locks.{IsLock}
use Rattle.lock_types.specs.InTable.{holds_type}
use Rattle.lock_types.proofs.PlainLemmas.{unlocked}
use Rattle.vet_locks.specs.CopyLocks.{IsLockCopy, AreLockCopies}
use Rattle.vet_locks.specs.Held.{AnyBelow, MayTell}

differ : (b : Bool) → b ≡ false → b ≡ true → ⊥
differ b p q = cc

-- what is told of a thing that is there is told of what was looked for
pub some_says : {A : Type 0} (P : A → Type 0) (o : Option A) (x : A) (b : Bool) → o ≡ Some x → (b ≡ true) ↔ P x → (b ≡ true) ↔ ((y : A) × (o ≡ Some y) × P y)
some_says {A} P o x b there tells = (
  λ e. (x, there, tells.0 e),
  λ (y, other, holds). tells.1 (subst P (same_some o y x other there) holds),
)

pub none_says : {A : Type 0} (P : A → Type 0) (o : Option A) → o ≡ None → (false ≡ true) ↔ ((y : A) × (o ≡ Some y) × P y)
none_says {A} P o none = (λ e. absurd (cc), λ (y, there, holds). absurd (apart o y none there)) where
  apart : (o : Option A) (y : A) → o ≡ None → o ≡ Some y → ⊥
  apart o y p q = cc

pub gains_if : {A : Type 0} (P : Type 0) (b : Bool) (list old new : List A) → (b ≡ true) ↔ P → b ≡ true → new ≡ old ++ list → Gains (λ (d : A). P × Contains list d) old new
gains_if {A} P b list old new tells held is = gains_as (λ (d : A). Contains list d) (λ (d : A). P × Contains list d) old new (gains_list list old new is) (λ x. (λ h. (tells.0 held, h), λ h. h.1))

pub gains_unless : {A : Type 0} (P : Type 0) (b : Bool) (list old : List A) → (b ≡ true) ↔ P → b ≡ false → Gains (λ (d : A). P × Contains list d) old old
gains_unless {A} P b list old tells failed = gains_none (λ (d : A). P × Contains list d) old old refl (λ x h. differ b failed (tells.1 h.0))

-- over the package that is given
pub gains_over : (u other : Unit) (marks says : Item → Meaning) (at : NodeRef) (node : Node) (old new : List Diagnostic) → u ≡ other → marks ≡ says → Gains (IsLockCopy u marks at node) old new → Gains (IsLockCopy other says at node) old new
gains_over u other marks says at node old new e f gains =
    subst (λ (x : Item → Meaning). Gains (IsLockCopy other x at node) old new) f (subst (λ (x : Unit). Gains (IsLockCopy x marks at node) old new) e gains)

-- what a flag says, over what is declared
pub flag_says : (ds other : Declarations) (of : GoType) (b : Bool) → ds ≡ other → (b ≡ true) ↔ IsLock ds of → (b ≡ true) ↔ IsLock other of
flag_says ds other of b same tells = subst (λ (d : Declarations). (b ≡ true) ↔ IsLock d of) same tells

-- ---- what may be reported

pub refuted : (P : Type 0) (b : Bool) → (b ≡ true) ↔ P → b ≡ false → P → ⊥
refuted P b tells failed holds = differ b failed (tells.1 holds)

-- none of the first few is so
abbrev pub NoneBelow : ℕ → (ℕ → Type 0) → Type 0
NoneBelow few Nth = (k : ℕ) → k < few → Nth k → ⊥

pub none_first : (Nth : ℕ → Type 0) → NoneBelow 0 Nth
none_first Nth k low holds = absurd (omega (arith, low))

pub none_more : (Nth : ℕ → Type 0) (i : ℕ) (b : Bool) → NoneBelow i Nth → (b ≡ true) ↔ Nth i → b ≡ false → NoneBelow (i + 1) Nth
none_more Nth i b before tells failed k low holds = elim (cases_eq k i) [
  | inl same ↦ refuted (Nth i) b tells failed (subst Nth same holds)
  | inr apart ↦ before k (omega (arith, low)) holds
]

pub none_all : (Nth : ℕ → Type 0) (i count : ℕ) → i ≡ count → NoneBelow i Nth → (false ≡ true) ↔ AnyBelow count Nth
none_all Nth i count same none = (λ e. absurd (cc), λ (k, low, holds). absurd (none k (omega (arith, low, same)) holds))

pub one_is : (Nth : ℕ → Type 0) (i count : ℕ) (b : Bool) → i < count → (b ≡ true) ↔ Nth i → b ≡ true → (true ≡ true) ↔ AnyBelow count Nth
one_is Nth i count b low tells held = (λ e. (i, low, tells.0 held), λ h. refl)

-- ---- where nothing may be reported

-- a lock type is a struct or an array
lock_holds : (ds : Declarations) (of : GoType) → IsLock ds of → holds_type ds of ≡ true
lock_holds ds of lock = by (holds_type ds of) refl where
  by : (b : Bool) → holds_type ds of ≡ b → b ≡ true
  by true e = refl
  by false e = absurd (unlocked ds of e lock)

-- what is reported may be
told_may : (u : Unit) (marks : Item → Meaning) (d : Diagnostic) → reported_below IsLockCopy u marks d → MayTell u marks
told_may u marks d (f, low, (n, below, (node, there, (i, few, (s, at, ((of, is, lock), told)))))) =
    (f, low, (n, below, (node, there, (i, few, (s, at, (of, is, lock_holds (declared_by u marks) of lock))))))

rises_none : IsStrictlySortedBy order []
unfolding IsStrictlySortedBy
rises_none = tt

pub no_copies : (u : Unit) (marks : Item → Meaning) (found : List Diagnostic) → (MayTell u marks → ⊥) → found ≡ [] → AreLockCopies u marks found
no_copies u marks found none bare = subst (λ (l : List Diagnostic). AreLockCopies u marks l) (sym bare) record {
  each = λ d h. absurd (empty d h);
  every = λ d r. absurd (none (told_may u marks d (is_below IsLockCopy u marks d r)));
  rises = rises_none;
} where
  empty : (d : Diagnostic) → Contains [] d → ⊥
  empty d (k, low, e) = omega (arith, low)

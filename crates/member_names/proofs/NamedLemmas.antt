-- What a name selects, and what a node names.
use Rattle.std.proofs.Common.{◌≡◌, ◌⊎◌, inl, inr, ℕ, Bool, true, false, List, [], Option, Some, None, refl, sym, ap, ◌∙◌, subst}
use Rattle.type_model.specs.declared.table.TypeTable.{TypeTable}
use Rattle.type_model.specs.GoTypes.{GoType, GoSignature, signature_of}
use Rattle.type_model.specs.Declarations.{Declarations}
use Rattle.type_model.specs.Tables.{types_in, declarations_in}
use Rattle.method_sets.specs.declared.selection.Selected.TheVariants as selected
use Rattle.method_sets.specs.declared.selection.Selection.{Selection}
use Rattle.method_sets.specs.declared.selection.Selection.TheVariants as selection
use Rattle.method_sets.specs.Levels.{ToSelect, Chosen, One, Several, Nothing, SaysSelected, chosen_in}
use Rattle.method_sets.specs.Members.{AMethod}
use Rattle.unit_read.specs.Units.{Unit}
use Rattle.findings.specs.Gains.{OfSome}
use Rattle.selected_methods.specs.Selected.{to_select}
use Rattle.selected_methods.specs.InCode.{IsWhat}
use Rattle.member_names.specs.Named.{method_led, IsMethodNamed}
use Rattle.member_names.specs.InCode.{method_chosen}

abbrev path_of : Chosen → List ℕ
path_of (One path part) = path
path_of (Several depth) = []
path_of Nothing = []

module _ (u : Unit) (t : TypeTable) (name : List ℕ) (of : GoType) (once : (ds : Declarations) (q : ToSelect) (a b : Chosen) → SaysSelected ds q a → SaysSelected ds q b → a ≡ b) where
  -- there is nothing where something else is selected
  none_chosen : (x : Chosen) → SaysSelected (declarations_in t) (to_select u name of) x
      → ((path : List ℕ) (method : GoSignature) (pointer : Bool) → x ≡ One path (AMethod method pointer) → ⊥) → IsWhat (IsMethodNamed u (declarations_in t) name of) None
  none_chosen x says other = λ w. (
    λ e. absurd cc,
    λ (path, method, pointer, more, e). absurd (other path method pointer (once (declarations_in t) (to_select u name of) x (One path (AMethod method pointer)) says more)),
  )

  one_chosen : (path : List ℕ) (method : GoSignature) (pointer : Bool) → SaysSelected (declarations_in t) (to_select u name of) (One path (AMethod method pointer))
      → IsWhat (IsMethodNamed u (declarations_in t) name of) (method_led (declarations_in t) name of path)
  one_chosen path method pointer says = λ w. (
    λ e. (path, method, pointer, says, e),
    λ (other, signature, by, more, e).
        let same : path ≡ other = ap path_of (once (declarations_in t) (to_select u name of) (One path (AMethod method pointer)) (One other (AMethod signature by)) says more) in
        ap (λ (l : List ℕ). method_led (declarations_in t) name of l) same ∙ e,
  )

  pub what_chosen : (sel : Selection) (o : Option (List ℕ × List ℕ)) → SaysSelected (declarations_in t) (to_select u name of) (chosen_in t sel) → o ≡ method_chosen t name of sel
      → IsWhat (IsMethodNamed u (declarations_in t) name of) o
  what_chosen sel o says is = subst (IsWhat (IsMethodNamed u (declarations_in t) name of)) (sym is) (by sel says)
    where
      by : (x : Selection) → SaysSelected (declarations_in t) (to_select u name of) (chosen_in t x) → IsWhat (IsMethodNamed u (declarations_in t) name of) (method_chosen t name of x)
      by (selection.Found path (selected.Method method pointer)) says = one_chosen path (signature_of (types_in t) method) pointer says
      by (selection.Found path (selected.Field field)) says = none_chosen (chosen_in t (selection.Found path (selected.Field field))) says (λ p m b e. absurd cc)
      by (selection.Ambiguous depth) says = none_chosen (Several depth) says (λ p m b e. absurd cc)
      by selection.Absent says = none_chosen Nothing says (λ p m b e. absurd cc)

-- ---- what is so of something that is there

some_same : {X : Type 0} (o : Option X) (a b : X) → o ≡ Some a → o ≡ Some b → a ≡ b
some_same o a b p q = cc

some_none : {X : Type 0} (o : Option X) (a : X) → o ≡ None → o ≡ Some a → ⊥
some_none o a p q = cc

pub what_some : {X Y : Type 0} (o : Option X) (P : X → Y → Type 0) (c : X) (r : Option Y) → o ≡ Some c → IsWhat (P c) r → IsWhat (OfSome o P) r
what_some {X} {Y} o P c r is what = λ y. (
  λ e. (c, is, (what y).0 e),
  λ (d, there, h). (what y).1 (subst (λ (x : X). P x y) (some_same o d c there is) h),
)

pub what_nothing : {X Y : Type 0} (o : Option X) (P : X → Y → Type 0) → o ≡ None → IsWhat (OfSome o P) None
what_nothing {X} {Y} o P none = λ y. (λ e. absurd cc, λ (d, there, h). absurd (some_none o d none there))

pub what_if : {Y : Type 0} (b : Bool) (P : Y → Type 0) (r : Option Y) → b ≡ true → IsWhat P r → IsWhat (λ (y : Y). (b ≡ true) × P y) r
what_if {Y} b P r held what = λ y. (λ e. (held, (what y).0 e), λ (h, p). (what y).1 p)

pub what_unless : {Y : Type 0} (b : Bool) (P : Y → Type 0) → b ≡ false → IsWhat (λ (y : Y). (b ≡ true) × P y) None
what_unless {Y} b P failed = λ y. (λ e. absurd cc, λ (h, p). absurd (differ b failed h)) where
  differ : (b : Bool) → b ≡ false → b ≡ true → ⊥
  differ b p q = cc

-- ---- the first of two

pub what_first : {Y : Type 0} (o : Option Y) (P : Y → Type 0) (x : Y) → o ≡ Some x → IsWhat (λ (y : Y). (o ≡ Some y) ⊎ ((o ≡ None) × P y)) (Some x)
what_first {Y} o P x is = λ y. (
  λ e. inl (is ∙ e),
  λ h. elim h [ inl there ↦ sym is ∙ there | inr (none, p) ↦ absurd (some_none o x none is) ],
)

pub what_second : {Y : Type 0} (o : Option Y) (P : Y → Type 0) (r : Option Y) → o ≡ None → IsWhat P r → IsWhat (λ (y : Y). (o ≡ Some y) ⊎ ((o ≡ None) × P y)) r
what_second {Y} o P r none what = λ y. (
  λ e. inr (none, (what y).0 e),
  λ h. elim h [ inl there ↦ absurd (some_none o y none there) | inr (nothing, p) ↦ (what y).1 p ],
)

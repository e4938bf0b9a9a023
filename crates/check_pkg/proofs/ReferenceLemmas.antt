-- What nodes refer to, by tables of rows.
use Rattle.std.proofs.Common.{◌≡◌, ◌⊎◌, ◌↔◌, Bool, true, false, if◌then◌else◌, not, List, length, Option, Some, None, refl, sym, ap, ◌∙◌, inl, inr}
use Rattle.std.proofs.Math.Path.{fun_ext}
use Rattle.std.specs.Option.{option_or}
use Rattle.std.specs.Global.{Vec}
use Rattle.std.specs.Prelude.{option_and_then}
use Rattle.go_tree.specs.declared.tree.Node.{Node}
use Rattle.go_tree.specs.declared.tree.NodeRef.{NodeRef}
use Rattle.object_order.specs.Spots.{place}
use Rattle.package_needs.specs.Worlds.{name_of}
use Rattle.typed_marks.specs.declared.item.Item.{Item}
use Rattle.typed_marks.specs.Meanings.{Meaning}
use Rattle.unit_read.specs.Imports.{bare}
use Rattle.unit_read.specs.Rows.{AreRows}
use Rattle.unit_read.specs.Subjects.{cell}
use Rattle.unit_read.specs.Units.{Unit, node_at, object_in}
use Rattle.unit_rows.specs.Circular.{named_at}
use Rattle.unit_rows.proofs.ReadLemmas.{cells}
use Rattle.check_pkg.specs.declared.references.Counted.{Counted}
use Rattle.check_pkg.specs.declared.references.Counted.TheVariants as counts
use Rattle.selected_methods.specs.Owners.{owner_in, owner_of}
use Rattle.selected_methods.specs.Selected.{IsSelectedMethod}
use Rattle.selected_methods.specs.InCode.{IsWhat}
use Rattle.check_pkg.specs.References.{refers, reference_at, names_field, joined_at, counted_at, IsReference, AreReferences}

nothing_if : (b : Bool) (o : Option NodeRef) → o ≡ None → (if b then o else None) ≡ None
nothing_if true o e = e
nothing_if false o e = refl

nothing_unless : (b : Bool) (o : Option NodeRef) → o ≡ None → (if b then None else o) ≡ None
nothing_unless true o e = refl
nothing_unless false o e = e

abbrev named_by : Unit → NodeRef → Option Node → Option NodeRef
named_by u at o = option_and_then name_of (option_and_then (λ (node : Node). object_in u.uses at) o)

module _ (u : Unit) (marks : Item → Meaning) (methods : NodeRef → Option NodeRef) (outside : (at : NodeRef) → node_at u at ≡ None → methods at ≡ None) where
  -- what is no node counts for nothing
  none_counted : (counted : Counted) (at : NodeRef) → node_at u at ≡ None → counted_at u marks methods counted at ≡ None
  none_counted counts.References at none =
      ap (λ (o : Option NodeRef). option_or o (methods at)) (nothing_if (refers u marks at) (named_at u at) (ap (named_by u at) none)) ∙ outside at none
  none_counted counts.Uses at none = nothing_unless (names_field u marks at) (named_at u at) (ap (named_by u at) none)

  -- the cells of a table of what counts
  pub counted_are : (counted : Counted) (rows : List (Vec (Option NodeRef))) → AreRows (λ f tree n. counted_at u marks methods counted (place f n)) u.trees rows (length u.trees)
      → (at : NodeRef) → cell rows at ≡ counted_at u marks methods counted at
  counted_are counted rows are =
      cells (λ f tree n. counted_at u marks methods counted (place f n)) u.trees rows (counted_at u marks methods counted) (λ x none. none_counted counted x none) (λ x tree node there is. refl) are

-- ---- methods that are selected

-- what each node selects
abbrev pub AreSelected : Unit → (Item → Meaning) → (NodeRef → Option NodeRef) → Type 0
AreSelected u marks methods = (at : NodeRef) → IsWhat (IsSelectedMethod u marks at) (methods at)

-- what is no node selects nothing
pub none_selected : (u : Unit) (marks : Item → Meaning) (methods : NodeRef → Option NodeRef) → AreSelected u marks methods → (at : NodeRef) → node_at u at ≡ None → methods at ≡ None
none_selected u marks methods are at none = by (methods at) refl
  where
    by : (o : Option NodeRef) → methods at ≡ o → methods at ≡ None
    by None e = e
    by (Some w) e =
        let (of, owns, is) = (are at w).0 e in
        let nothing : owner_of (bare u) marks at ≡ None = ap (λ (o : Option Node). option_and_then (owner_in marks at) o) none in
        absurd cc

joined_is : (P : NodeRef → Type 0) (o m : Option NodeRef) → IsWhat P m → (w : NodeRef) → (option_or o m ≡ Some w) ↔ ((o ≡ Some w) ⊎ ((o ≡ None) × P w))
joined_is P None m are w = (
  λ e. inr (refl, (are w).0 e),
  λ x. elim x [
    | inl e ↦ absurd cc
    | inr (none, is) ↦ (are w).1 is
  ],
)
joined_is P (Some v) m are w = (
  λ e. inl e,
  λ x. elim x [
    | inl e ↦ e
    | inr (none, is) ↦ absurd cc
  ],
)

-- to what each node is a reference
pub joined_are : (u : Unit) (marks : Item → Meaning) (methods : NodeRef → Option NodeRef) → AreSelected u marks methods → AreReferences u marks (joined_at (bare u) marks methods)
joined_are u marks methods are = λ at w. joined_is (IsSelectedMethod u marks at) (reference_at (bare u) marks at) (methods at) (are at) w

same_option : {X : Type 0} (P : X → Type 0) (a b : Option X) → IsWhat P a → IsWhat P b → a ≡ b
same_option P None None p q = refl
same_option P None (Some w) p q = (p w).1 ((q w).0 refl)
same_option P (Some v) b p q = sym ((q v).1 ((p v).0 refl))

-- there is one answer
pub one_meant : (u : Unit) (marks : Item → Meaning) (a b : NodeRef → Option NodeRef) → AreReferences u marks a → AreReferences u marks b → a ≡ b
one_meant u marks a b p q = fun_ext (λ (at : NodeRef). same_option (IsReference u marks at) (a at) (b at) (p at) (q at))

-- ---- a name where it counts

pub kept_if : (b c : Bool) (o : Option NodeRef) (name : NodeRef) → b ≡ c → o ≡ Some name → (if b then Some name else None) ≡ (if c then o else None)
kept_if b c o name same is = ap (λ (x : Option NodeRef). if b then x else None) (sym is) ∙ ap (λ (x : Bool). if x then o else None) same

pub none_if : (c : Bool) (o : Option NodeRef) → o ≡ None → None ≡ (if c then o else None)
none_if true o is = sym is
none_if false o is = refl

pub kept_unless : (b c : Bool) (o : Option NodeRef) (name : NodeRef) → b ≡ not c → o ≡ Some name → (if b then Some name else None) ≡ (if c then None else o)
kept_unless b true o name same is = ap (λ (x : Bool). if x then Some name else None) same
kept_unless b false o name same is = ap (λ (x : Bool). if x then Some name else None) same ∙ sym is

pub none_unless : (c : Bool) (o : Option NodeRef) → o ≡ None → None ≡ (if c then None else o)
none_unless true o is = refl
none_unless false o is = sym is

-- There is one unit of a package over an environment.
use Rattle.std.proofs.Common.{◌≡◌, ◌↔◌, ℕ, IsTrue, Bool, true, false, List, slice_get, Option, Some, None, refl, sym, ap, ◌∙◌, subst}
use Rattle.std.proofs.Math.Path.{fun_ext}
use Rattle.go_tree.specs.Bindings.{AreInOrder}
use Rattle.go_tree.specs.declared.tree.Node.{Node}
use Rattle.go_tree.specs.declared.tree.NodeRef.{NodeRef}
use Rattle.object_order.specs.Names.{IsNamed}
use Rattle.object_order.specs.declared.spot.Entry.{Entry}
use Rattle.package_needs.proofs.OneLemmas.{same_declared, leads_on, leads_back, same_owner}
use Rattle.bind.specs.Answers.{AreSpelled}
use Rattle.unit_read.specs.Units.{Unit, node_at}
use Rattle.unit_rows.specs.Circular.{AreCircular}
use Rattle.check_pkg.specs.Elsewhere.{struct_elsewhere}
use Rattle.check_pkg.specs.Packages.{Package, Env, AreNeeds, IsUnit}
use Rattle.check_pkg.proofs.Uniqueness.{unit_with, with_flags, Shares, shared, one_unit}

same_truth : (x y : Bool) → (IsTrue x → IsTrue y) → (IsTrue y → IsTrue x) → x ≡ y
same_truth true true to back = refl
same_truth false false to back = refl
same_truth true false to back = sym (to refl)
same_truth false true to back = back refl

-- the unit, with the flags of another
abbrev over : Unit → Unit → Unit
over u v = unit_with u.path u.texts u.trees u.uses u.env v.redeclared v.cyclic v.circular v.owner

module _ (u v : Unit) (ordered : AreInOrder u.uses) (one : AreNeeds u) (other : AreNeeds (over u v)) where
  cyclic_to : (at : NodeRef) (node : Node) → node_at u at ≡ Some node → IsTrue (u.cyclic at) → IsTrue (v.cyclic at)
  cyclic_to at node there h =
      let known = (one.each at node there).0 h in
      (other.each at node there).1 (
        subst (λ (es : List Entry). IsNamed es at) (same_declared u.uses u.trees (struct_elsewhere u) ordered one.rows other.rows one.names other.names one.world other.world one.is other.is) known.0,
        leads_on u.uses u.trees (struct_elsewhere u) ordered one.rows other.rows one.names other.names one.world other.world one.is other.is at at known.1,
      )

  cyclic_back : (at : NodeRef) (node : Node) → node_at u at ≡ Some node → IsTrue (v.cyclic at) → IsTrue (u.cyclic at)
  cyclic_back at node there h =
      let known = (other.each at node there).0 h in
      (one.each at node there).1 (
        subst (λ (es : List Entry). IsNamed es at) (sym (same_declared u.uses u.trees (struct_elsewhere u) ordered one.rows other.rows one.names other.names one.world other.world one.is other.is)) known.0,
        leads_back u.uses u.trees (struct_elsewhere u) ordered one.rows other.rows one.names other.names one.world other.world one.is other.is at at known.1,
      )

  same_cyclic : (at : NodeRef) → u.cyclic at ≡ v.cyclic at
  same_cyclic at = by (node_at u at) refl where
    by : (o : Option Node) → node_at u at ≡ o → u.cyclic at ≡ v.cyclic at
    by None none = one.others at none ∙ sym (other.others at none)
    by (Some node) there = same_truth (u.cyclic at) (v.cyclic at) (cyclic_to at node there) (cyclic_back at node there)

  same_owners : (at : NodeRef) → u.owner at ≡ v.owner at
  same_owners at = by (node_at u at) refl where
    by : (o : Option Node) → node_at u at ≡ o → u.owner at ≡ v.owner at
    by None none = one.unowned at none ∙ sym (other.unowned at none)
    by (Some node) there =
        same_owner u.uses u.trees (struct_elsewhere u) ordered one.rows other.rows one.names other.names one.world other.world one.is other.is at (u.owner at) (v.owner at) (one.owned at node there) (other.owned at node there)

-- two lists of flags of what leads back to itself are one
same_circular : (u : Unit) (f g : NodeRef → Bool) → AreCircular u f → AreCircular u g → (at : NodeRef) → f at ≡ g at
same_circular u f g one other at = by (node_at u at) refl where
  by : (o : Option Node) → node_at u at ≡ o → f at ≡ g at
  by None none = one.others at none ∙ sym (other.others at none)
  by (Some node) there = same_truth (f at) (g at) (λ h. (other.each at node there).1 ((one.each at node there).0 h)) (λ h. (one.each at node there).1 ((other.each at node there).0 h))

pub the_unit : (p : Package) (env : Env) (a b : Unit) → IsUnit p env a → IsUnit p env b → AreSpelled p.trees p.files → a ≡ b
the_unit p env a b one other spelled =
    one_unit p env a b one other spelled (same_cyclic a b one.uses.ordered one.needs needs) (same_circular a a.circular b.circular one.circular turned) owned where
      shares : Shares a b
      shares = shared p env a b one other spelled

      plain : over a b ≡ b
      plain = with_flags a b b.redeclared b.cyclic b.circular b.owner shares

      needs : AreNeeds (over a b)
      needs = subst (λ (u : Unit). AreNeeds u) (sym plain) other.needs

      owned : (at : NodeRef) → a.owner at ≡ b.owner at
      owned = same_owners a b one.uses.ordered one.needs needs

      -- the flags of the second, as those of the first
      turned : AreCircular a b.circular
      turned =
          let over_b = subst (λ (x : Unit). AreCircular x b.circular) (sym plain) other.circular in
          let owner : b.owner ≡ a.owner = fun_ext (λ at. sym (owned at)) in
          let over_a = subst (λ (f : NodeRef → Option NodeRef). AreCircular (unit_with a.path a.texts a.trees a.uses a.env b.redeclared b.cyclic b.circular f) b.circular) owner over_b in
          record { each = over_a.each; others = over_a.others }

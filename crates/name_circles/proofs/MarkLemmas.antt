-- An order of need of the opened description marks the names that lead back to themselves.
use Rattle.std.proofs.Common.{◌≡◌, ◌↔◌, ◌≤◌, ℕ, IsTrue, List, [], ◌∷◌, map, slice_get, Option, Some, None, option_map, option_and_then, refl, sym, ap, ◌∙◌, subst}
use Rattle.std.proofs.Math.Path.{fun_ext}
use Rattle.std.proofs.lemmas.Option.{slice_get-map}
use Rattle.std.specs.Global.{Vec}
use Rattle.std.specs.HashMap.{HashMap}
use Rattle.go_tree.specs.declared.tree.FileTree.{FileTree}
use Rattle.go_tree.specs.declared.tree.Node.{Node}
use Rattle.go_tree.specs.declared.tree.NodeRef.{NodeRef}
use Rattle.object_order.specs.declared.needed.Needed.{Needed}
use Rattle.object_order.specs.declared.spot.Entry.{Entry}
use Rattle.object_order.specs.Cases.{NeedsOf}
use Rattle.object_order.specs.Names.{IsNamed, AreNamed}
use Rattle.object_order.specs.Orders.{IsNeedOrder}
use Rattle.object_order.specs.Paths.{Leads}
use Rattle.object_order.specs.Spots.{World}
use Rattle.object_order.specs.Views.{node_in, meant_in, entry_in, kin_in, number_in}
use Rattle.name_circles.specs.Circles.{Circles, AreMarked, opened, open_world}
use Rattle.name_circles.proofs.OpenLemmas.{circle_is}

of_map : (entries : List Entry) (k : ℕ) (e : Entry) → slice_get (map opened entries) k ≡ Some e → (d : Entry) × (slice_get entries k ≡ Some d) × (opened d ≡ e)
of_map entries k e is = by (slice_get entries k) refl (sym (slice_get-map opened entries k) ∙ is) where
  by : (o : Option Entry) → slice_get entries k ≡ o → option_map opened o ≡ Some e → (d : Entry) × (slice_get entries k ≡ Some d) × (opened d ≡ e)
  by None there h = absurd cc
  by (Some d) there h = (d, there, cc)

to_map : (entries : List Entry) (k : ℕ) (d : Entry) → slice_get entries k ≡ Some d → slice_get (map opened entries) k ≡ Some (opened d)
to_map entries k d is = slice_get-map opened entries k ∙ ap (option_map opened) is

-- opened declarations have the same names
pub named_opened : {S : Type 0} (entries : List Entry) (numbers : HashMap (ℕ × ℕ) ℕ S) → AreNamed entries numbers → AreNamed (map opened entries) numbers
named_opened entries numbers named = record {
  has = λ k e is. (let d = of_map entries k e is in let n = named.has k d.0 d.1 in (n.0, ap (λ (x : Entry). number_in numbers (x.name.file, x.name.node)) (sym d.2) ∙ n.1));
  «is» = λ n at is. (let d = named.«is» n at is in (opened d.0, to_map entries n d.0 d.1, d.2));
  first = λ n j e is there. (let d = of_map entries j e there in named.first n j d.0 (ap (λ (x : Entry). number_in numbers (x.name.file, x.name.node)) d.2 ∙ is) d.1);
}

named_in : (entries : List Entry) (o : NodeRef) → IsNamed (map opened entries) o → IsNamed entries o
named_in entries o (k, e, is, same) = (let d = of_map entries k e is in (k, d.0, d.1, ap (λ (x : Entry). x.name) d.2 ∙ same))

named_out : (entries : List Entry) (o : NodeRef) → IsNamed entries o → IsNamed (map opened entries) o
named_out entries o (k, e, is, same) = (k, opened e, to_map entries k e is, same)

abbrev world_by : {S : Type 0} → List FileTree → List (Vec (Option NodeRef)) → List Entry → HashMap (ℕ × ℕ) ℕ S → List (Vec NodeRef) → World
world_by trees meant entries numbers groups = record { node = node_in trees; meant = meant_in meant; entry = entry_in entries numbers; kin = kin_in groups numbers }

entry_opened : {S : Type 0} (entries : List Entry) (numbers : HashMap (ℕ × ℕ) ℕ S) (at : NodeRef) → entry_in (map opened entries) numbers at ≡ option_map opened (entry_in entries numbers at)
entry_opened entries numbers at = by (number_in numbers (at.file, at.node)) where
  by : (o : Option ℕ) → option_and_then (λ n. slice_get (map opened entries) n) o ≡ option_map opened (option_and_then (λ n. slice_get entries n) o)
  by None = refl
  by (Some n) = slice_get-map opened entries n

abbrev with_entry : World → (NodeRef → Option Entry) → World
with_entry w entry = record { node = w.node; meant = w.meant; entry = entry; kin = w.kin }

pub marked : {S : Type 0} (trees : List FileTree) (meant : List (Vec (Option NodeRef))) (entries list : List Entry) (numbers : HashMap (ℕ × ℕ) ℕ S) (groups : List (Vec NodeRef)) (order : List Needed)
    → list ≡ map opened entries → IsNeedOrder (NeedsOf (world_by trees meant list numbers groups)) (IsNamed list) order → AreMarked (world_by trees meant entries numbers groups) entries order
marked trees meant entries list numbers groups order is ordered = record {
  only = λ k e there. named_in entries e.object (whole.only k e there);
  each = λ o named. whole.each o (named_out entries o named);
  marks = λ k e there none. (
    λ cyclic. (circle_is w e.object none).0 ((whole.cyclic k e there).0 cyclic),
    λ circle. (whole.cyclic k e there).1 ((circle_is w e.object none).1 circle),
  );
} where
  w : World
  w = world_by trees meant entries numbers groups

  same : world_by trees meant (map opened entries) numbers groups ≡ open_world w
  same = ap (with_entry w) (fun_ext (entry_opened entries numbers))

  whole : IsNeedOrder (NeedsOf (open_world w)) (IsNamed (map opened entries)) order
  whole = subst (λ (x : World). IsNeedOrder (NeedsOf x) (IsNamed (map opened entries)) order) same
      (subst (λ (es : List Entry). IsNeedOrder (NeedsOf (world_by trees meant es numbers groups)) (IsNamed es) order) is ordered)

-- References, and the variables that reach themselves by them.
use Rattle.std.proofs.Common.{◌≡◌, ◌↔◌, ◌≤◌, ◌^◌, Bool, List, length, map, Option, ap, subst, arith}
use Rattle.std.proofs.lemmas.List.{length-map}
use Rattle.std.proofs.Math.Path.{fun_ext}
use Rattle.std.specs.Global.{Vec}
use Rattle.std.specs.List.{Contains}
use Rattle.go_tree.specs.declared.tree.FileTree.{FileTree}
use Rattle.go_tree.specs.declared.tree.NodeRef.{NodeRef}
use Rattle.object_order.specs.declared.spot.Entry.{Entry}
use Rattle.object_order.specs.Spots.{place}
use Rattle.object_order.specs.Views.{meant_in}
use Rattle.typed_marks.specs.declared.item.Item.{Item}
use Rattle.typed_marks.specs.Meanings.{Meaning}
use Rattle.unit_read.specs.Imports.{bare}
use Rattle.unit_read.specs.Rows.{AreRows}
use Rattle.unit_read.specs.Units.{Unit}
use Rattle.value_circles.specs.Bodies.{body_entries, opened as opened_tree, opened_trees}
use Rattle.value_circles.specs.Circles.{flag, IsInitialCircle, AreInitialCircles}
use Rattle.check_pkg.specs.declared.references.Counted.TheVariants as counts
use Rattle.check_pkg.specs.References.{joined_at, counted_at, AreReferences}
use Rattle.check_pkg.specs.Initial.{IsInitialFault}
use Rattle.check_pkg.proofs.ReferenceLemmas.{counted_are, AreSelected, none_selected, joined_are, one_meant}

-- the cells of a table of references
references_are : (u : Unit) (marks : Item → Meaning) (methods : NodeRef → Option NodeRef) (rows : List (Vec (Option NodeRef))) → AreSelected u marks methods
    → AreRows (λ f tree n. counted_at (bare u) marks methods counts.References (place f n)) u.trees rows (length u.trees) → (at : NodeRef) → meant_in rows at ≡ joined_at (bare u) marks methods at
references_are u marks methods rows selected are = counted_are (bare u) marks methods (none_selected u marks methods selected) counts.References rows are

-- what reaches itself by references
faults_are : (u : Unit) (marks : Item → Meaning) (meant : NodeRef → Option NodeRef) (list : List NodeRef) → AreReferences u marks meant
    → AreInitialCircles (opened_trees u.trees) meant u.cyclic (body_entries u.trees) list → (at : NodeRef) → Contains list at ↔ IsInitialFault u marks at
faults_are u marks meant list refer are = λ at. (
  λ there. (meant, refer, (are at).0 there),
  λ (other, others, circle).
      (are at).1 (subst (λ (m : NodeRef → Option NodeRef). IsInitialCircle (opened_trees u.trees) m u.cyclic (body_entries u.trees) at) (one_meant u marks other meant others refer) circle),
)

-- a package has as many trees when its blocks are read as lists
pub few_opened : (trees opened : List FileTree) → opened ≡ opened_trees trees → length trees ≤ 2 ^ 32 → length opened ≤ 2 ^ 32
few_opened trees opened is few =
    let e : length opened ≡ length (map opened_tree trees) = ap (λ (xs : List FileTree). length xs) is in
    let l : length (map opened_tree trees) ≡ length trees = length-map trees opened_tree in
    omega (arith, e, l, few)

pub initial_are : (u : Unit) (marks : Item → Meaning) (methods : NodeRef → Option NodeRef) (rows given : List (Vec (Option NodeRef))) (flags : List (Vec Bool)) (trees : List FileTree) (bodies : List Entry) (list : List NodeRef)
    → AreSelected u marks methods → AreRows (λ f tree n. counted_at (bare u) marks methods counts.References (place f n)) u.trees rows (length u.trees) → given ≡ rows → ((at : NodeRef) → flag flags at ≡ u.cyclic at) → trees ≡ opened_trees u.trees
    → bodies ≡ body_entries u.trees → AreInitialCircles trees (meant_in given) (flag flags) bodies list → (at : NodeRef) → Contains list at ↔ IsInitialFault u marks at
initial_are u marks methods rows given flags trees bodies list selected filled same cyclic opened all are =
    faults_are u marks (joined_at (bare u) marks methods) list (joined_are u marks methods selected)
    (subst (λ (m : NodeRef → Option NodeRef). AreInitialCircles (opened_trees u.trees) m u.cyclic (body_entries u.trees) list) (fun_ext (references_are u marks methods rows selected filled))
    (subst (λ (c : NodeRef → Bool). AreInitialCircles (opened_trees u.trees) (meant_in rows) c (body_entries u.trees) list) (fun_ext cyclic)
    (subst (λ (b : List Entry). AreInitialCircles (opened_trees u.trees) (meant_in rows) (flag flags) b list) all
    (subst (λ (ts : List FileTree). AreInitialCircles ts (meant_in rows) (flag flags) bodies list) opened
    (subst (λ (g : List (Vec (Option NodeRef))). AreInitialCircles trees (meant_in g) (flag flags) bodies list) same are)))))

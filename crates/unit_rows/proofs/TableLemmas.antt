-- A table is filled node by node.
use Rattle.std.proofs.Common.{◌≡◌, ℕ, ◌<◌, ◌&&◌, ◌==◌, nat_eq, Bool, true, false, List, [], length, slice_get, slice_index_or, Option, Some, None, unwrap_or, if◌then◌else◌, refl, sym, ap, ◌∙◌, subst, arith}
use Rattle.std.specs.Global.{Vec}
use Rattle.std.specs.Option.{option_map_or}
use Rattle.std.proofs.lemmas.Bool.{eqb-true, eqb-false}
use Rattle.std.proofs.lemmas.Option.{slice_get_within}
use Rattle.go_tree.specs.declared.tree.FileTree.{FileTree}
use Rattle.go_tree.specs.declared.tree.NodeRef.{NodeRef}
use Rattle.object_order.specs.Spots.{place}
use Rattle.object_order.specs.Views.{same_key}
use Rattle.unit_read.specs.Places.{put_at}
use Rattle.unit_read.specs.Rows.{IsRow, AreRows}
use Rattle.unit_rows.specs.Tables.{row_in, PutsAt, PutsIn}
use Rattle.unit_rows.proofs.ListLemmas.{got}

-- what is said of the nodes of a file
abbrev pub of_node : {X : Type 0} → (NodeRef → Option X) → ℕ → FileTree → ℕ → Option X
of_node says f tree n = says (place f n)

pub not_put : {X : Type 0} (o : Option X) (x : X) → put_at o false x ≡ o
not_put None x = refl
not_put (Some y) x = refl

pub first_put : {X : Type 0} (o : Option X) (b : Bool) (x : X) → (if b then Some (unwrap_or o x) else o) ≡ put_at o b x
first_put None true x = refl
first_put None false x = refl
first_put (Some y) true x = refl
first_put (Some y) false x = refl

-- the same is said
pub rows_same : {X : Type 0} (trees : List FileTree) (rows : List (Vec (Option X))) (count : ℕ) (was now : NodeRef → Option X) → ((q : NodeRef) → now q ≡ was q)
    → AreRows (of_node was) trees rows count → AreRows (of_node now) trees rows count
rows_same trees rows count was now same are = record {
  size = are.size;
  each = λ f tree row there stands. record {
    size = (are.each f tree row there stands).size;
    each = λ n low. (are.each f tree row there stands).each n low ∙ sym (same (place f n));
  };
}

abbrev key_of : NodeRef → ℕ × ℕ
key_of at = (at.file, at.node)

module _ {X : Type 0} (trees : List FileTree) (old new : List (Vec (Option X))) (at : NodeRef) (value : X) (was now : NodeRef → Option X)
    (are : AreRows (of_node was) trees old (length trees)) (puts : PutsIn old new at.file at.node value)
    (says : (q : NodeRef) → now q ≡ put_at (was q) (same_key (key_of at) (key_of q)) value)
    (f : ℕ) (tree : FileTree) (row before : Vec (Option X)) (there : slice_get trees f ≡ Some tree) (stands : slice_get new f ≡ Some row) (stood : slice_get old f ≡ Some before) where
  new_row : row_in new f ≡ row.items
  new_row = ap (λ (o : Option (Vec (Option X))). option_map_or (λ (r : Vec (Option X)). r.items) o []) stands

  old_row : row_in old f ≡ before.items
  old_row = ap (λ (o : Option (Vec (Option X))). option_map_or (λ (r : Vec (Option X)). r.items) o []) stood

  row_before : IsRow (λ n. was (place f n)) before.items (length tree.nodes)
  row_before = are.each f tree before there stood

  -- in the row of the node
  here_at : nat_eq at.file f ≡ true → PutsAt before.items row.items at.node value
  here_at is =
      let same : at.file ≡ f = eqb-true at.file f is in
      let moved : PutsAt (row_in old f) (row_in new f) at.node value = subst (λ (g : ℕ). PutsAt (row_in old g) (row_in new g) at.node value) same puts.here in
      subst (λ (xs : List (Option X)). PutsAt before.items xs at.node value) new_row
      (subst (λ (xs : List (Option X)). PutsAt xs (row_in new f) at.node value) old_row moved)

  here : nat_eq at.file f ≡ true → IsRow (λ n. now (place f n)) row.items (length tree.nodes)
  here is = record {
    size = (here_at is).size ∙ row_before.size;
    each = λ n low.
        (here_at is).each n (let s = row_before.size in omega arith)
        ∙ (ap (λ (o : Option X). put_at o (at.node == n) value) (row_before.each n low)
        ∙ sym (says (place f n) ∙ ap (λ (b : Bool). put_at (was (place f n)) (b && nat_eq at.node n) value) is));
  }

  -- in the other rows
  same_row : nat_eq at.file f ≡ false → before.items ≡ row.items
  same_row is = sym old_row ∙ (sym (puts.others f (λ same. eqb-false at.file f is (sym same))) ∙ new_row)

  elsewhere : nat_eq at.file f ≡ false → IsRow (λ n. now (place f n)) row.items (length tree.nodes)
  elsewhere is = record {
    size = ap length (sym (same_row is)) ∙ row_before.size;
    each = λ n low.
        ap (λ (xs : List (Option X)). slice_index_or xs n None) (sym (same_row is))
        ∙ (row_before.each n low
        ∙ sym (says (place f n) ∙ (ap (λ (b : Bool). put_at (was (place f n)) (b && nat_eq at.node n) value) is ∙ not_put (was (place f n)) value)));
  }

  by_file : (b : Bool) → nat_eq at.file f ≡ b → IsRow (λ n. now (place f n)) row.items (length tree.nodes)
  by_file true is = here is
  by_file false is = elsewhere is

  pub put_row : IsRow (λ n. now (place f n)) row.items (length tree.nodes)
  put_row = by_file (nat_eq at.file f) refl

-- one value more
pub put_more : {X : Type 0} (trees : List FileTree) (old new : List (Vec (Option X))) (at : NodeRef) (value : X) (was now : NodeRef → Option X) → AreRows (of_node was) trees old (length trees)
    → PutsIn old new at.file at.node value → ((q : NodeRef) → now q ≡ put_at (was q) (same_key (key_of at) (key_of q)) value) → AreRows (of_node now) trees new (length trees)
put_more trees old new at value was now are puts says = record {
  size = puts.size ∙ are.size;
  each = λ f tree row there stands.
      let low = slice_get_within new f row stands in
      let s = puts.size in
      let (before, stood) = got old f (omega arith) in
      put_row trees old new at value was now are puts says f tree row before there stands stood;
}

-- Tables of methods: one cell more, one file more, and what the whole says.
use Rattle.std.proofs.Common.{◌≡◌, ℕ, ◌+◌, ◌<◌, List, [], ◌∷◌, ◌++◌, length, slice_get, Option, Some, None, refl, sym, ap, ◌∙◌, subst, inl, inr, arith}
use Rattle.std.proofs.lemmas.List.{length_push}
use Rattle.std.proofs.lemmas.Option.{slice_get_within, slice_get_past}
use Rattle.std.specs.Global.{Vec}
use Rattle.std.specs.Prelude.{option_and_then}
use Rattle.go_tree.specs.declared.tree.FileTree.{FileTree}
use Rattle.go_tree.specs.declared.tree.Node.{Node}
use Rattle.go_tree.specs.declared.tree.NodeRef.{NodeRef}
use Rattle.object_order.specs.Spots.{place}
use Rattle.typed_marks.specs.declared.item.Item.{Item}
use Rattle.typed_marks.specs.Meanings.{Meaning}
use Rattle.unit_read.proofs.EnvironmentLemmas.{same_some, push_cases}
use Rattle.unit_read.specs.Subjects.{cell}
use Rattle.unit_read.specs.Units.{Unit, nodes_of}
use Rattle.selected_methods.specs.Owners.{owner_in}
use Rattle.selected_methods.specs.Selected.{IsSelectedMethod}
use Rattle.selected_methods.specs.InCode.{IsWhat, AreMethods, AreMethodRows}
use Rattle.selected_methods.proofs.Lists.{none_past, got}
use Rattle.selected_methods.proofs.ChosenLemmas.{what_unselected}

-- ---- one row

pub methods_none : (P : ℕ → NodeRef → Type 0) (row : List (Option NodeRef)) → row ≡ [] → AreMethods P row 0
methods_none P row bare = subst (λ (x : List (Option NodeRef)). AreMethods P x 0) (sym bare) (record { size = refl; each = λ n o at. absurd cc })

pub methods_more : (P : ℕ → NodeRef → Type 0) (row new : List (Option NodeRef)) (n : ℕ) (o : Option NodeRef) → AreMethods P row n → IsWhat (P n) o → new ≡ row ++ (o ∷ [])
    → AreMethods P new (n + 1)
methods_more P row new n o was is now = record {
  size = ap length now ∙ (length_push row o ∙ ap (λ k. k + 1) was.size);
  each = λ k x at. elim (push_cases row o x k (ap (λ (xs : List (Option NodeRef)). slice_get xs k) (sym now) ∙ at)) [
    | inl before ↦ was.each k x before
    | inr (k_is, x_is) ↦
        let here : n ≡ k = sym (k_is ∙ was.size) in
        subst (λ (m : ℕ). IsWhat (P m) x) here (subst (IsWhat (P n)) (sym x_is) is)
  ];
}

-- ---- all rows

pub method_rows_none : (P : NodeRef → NodeRef → Type 0) (trees : List FileTree) (rows : List (Vec (Option NodeRef))) → rows ≡ [] → AreMethodRows P trees rows 0
method_rows_none P trees rows bare = subst (λ (x : List (Vec (Option NodeRef))). AreMethodRows P trees x 0) (sym bare) (record { size = refl; each = λ f tree row at there. absurd cc })

pub method_rows_more : (P : NodeRef → NodeRef → Type 0) (trees : List FileTree) (rows new : List (Vec (Option NodeRef))) (k : ℕ) (tree : FileTree) (row : Vec (Option NodeRef))
    → AreMethodRows P trees rows k → slice_get trees k ≡ Some tree → AreMethods (λ n. P (place k n)) row.items (length tree.nodes) → new ≡ rows ++ (row ∷ []) → AreMethodRows P trees new (k + 1)
method_rows_more P trees rows new k tree row was at is now = record {
  size = ap length now ∙ (length_push rows row ∙ ap (λ n. n + 1) was.size);
  each = λ f t r t_at r_at. elim (push_cases rows row r f (ap (λ (xs : List (Vec (Option NodeRef))). slice_get xs f) (sym now) ∙ r_at)) [
    | inl before ↦ was.each f t r t_at before
    | inr (f_is, r_is) ↦
        let here : k ≡ f = sym (f_is ∙ was.size) in
        let one : tree ≡ t = same_some (slice_get trees k) tree t at (ap (slice_get trees) here ∙ t_at) in
        subst (λ (x : ℕ). AreMethods (λ n. P (place x n)) r.items (length t.nodes)) here
        (subst (λ (x : FileTree). AreMethods (λ n. P (place k n)) r.items (length x.nodes)) one
        (subst (λ (x : Vec (Option NodeRef)). AreMethods (λ n. P (place k n)) x.items (length tree.nodes)) (sym r_is) is))
  ];
}

-- ---- what the cells say

abbrev in_row : NodeRef → Option (Vec (Option NodeRef)) → Option NodeRef
in_row at o = option_and_then (λ (row : Vec (Option NodeRef)). option_and_then (λ (o : Option NodeRef). o) (slice_get row.items at.node)) o

abbrev in_cell : Option (Option NodeRef) → Option NodeRef
in_cell o = option_and_then (λ (o : Option NodeRef). o) o

abbrev in_tree : NodeRef → Option FileTree → Option Node
in_tree at o = slice_get (nodes_of o) at.node

module _ (u : Unit) (marks : Item → Meaning) (rows : List (Vec (Option NodeRef))) (are : AreMethodRows (IsSelectedMethod u marks) u.trees rows (length u.trees)) (at : NodeRef) where
  nowhere : in_tree at (slice_get u.trees at.file) ≡ None → cell rows at ≡ None → IsWhat (IsSelectedMethod u marks at) (cell rows at)
  nowhere none e =
      subst (IsWhat (IsSelectedMethod u marks at)) (sym e) (what_unselected u marks at (ap (λ (o : Option Node). option_and_then (owner_in marks at) o) none))

  by_node : (tree : FileTree) → slice_get u.trees at.file ≡ Some tree → (row : Vec (Option NodeRef)) → slice_get rows at.file ≡ Some row
      → (o : Option Node) → slice_get tree.nodes at.node ≡ o → IsWhat (IsSelectedMethod u marks at) (cell rows at)
  by_node tree there row row_at None e =
      let low = none_past tree.nodes at.node e in
      let s = (are.each at.file tree row there row_at).size in
      nowhere (ap (in_tree at) there ∙ e) (ap (in_row at) row_at ∙ ap in_cell (slice_get_past row.items at.node (omega arith)))
  by_node tree there row row_at (Some node) e =
      let low = slice_get_within tree.nodes at.node node e in
      let s = (are.each at.file tree row there row_at).size in
      let (o, o_at) = got row.items at.node (omega arith) in
      subst (IsWhat (IsSelectedMethod u marks at)) (sym (ap (in_row at) row_at ∙ ap in_cell o_at)) ((are.each at.file tree row there row_at).each at.node o o_at)

  by_tree : (o : Option FileTree) → slice_get u.trees at.file ≡ o → IsWhat (IsSelectedMethod u marks at) (cell rows at)
  by_tree None e =
      nowhere (ap (in_tree at) e) (ap (in_row at) (slice_get_past rows at.file (let low = none_past u.trees at.file e in let s = are.size in omega arith)))
  by_tree (Some tree) e =
      let low = slice_get_within u.trees at.file tree e in
      let s = are.size in
      let (row, row_at) = got rows at.file (omega arith) in
      by_node tree e row row_at (slice_get tree.nodes at.node) refl

  pub cells_are : IsWhat (IsSelectedMethod u marks at) (cell rows at)
  cells_are = by_tree (slice_get u.trees at.file) refl

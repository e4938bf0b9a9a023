-- What the tables of a package say of its nodes.
use Rattle.std.proofs.Common.{◌≡◌, ℕ, zero, suc, ◌≤◌, if◌then◌else◌, List, [], ◌∷◌, length, slice_get, Option, Some, None, option_and_then, option_map, refl, sym, ap, ◌∙◌, arith}
use Rattle.std.specs.Global.{Vec}
use Rattle.std.specs.Option.{option_map_or}
use Rattle.std.proofs.lemmas.Option.{slice_get_within, slice_get_past, slice_get-get_or}
use Rattle.go_tree.specs.Spelling.{text_of}
use Rattle.go_tree.specs.declared.bindings.Object.{Object}
use Rattle.go_tree.specs.declared.tree.FileTree.{FileTree}
use Rattle.go_tree.specs.declared.tree.Node.{Node}
use Rattle.go_tree.specs.declared.tree.NodeRef.{NodeRef}
use Rattle.const_tree.specs.Constants.{specs_in, first_from}
use Rattle.type_model.specs.declared.term.TypeName.{TypeName}
use Rattle.unit_read.specs.declared.lead.Lead.{Lead}
use Rattle.unit_read.specs.declared.place.Place.{Place}
use Rattle.unit_read.specs.Imports.{is_import, lead_by, lead_at, lead_of}
use Rattle.unit_read.specs.Places.{place_of}
use Rattle.unit_read.specs.Rows.{AreRows, lead_in, leads_in}
use Rattle.unit_read.specs.Subjects.{cell}
use Rattle.unit_read.specs.Units.{Unit, nodes_of, text_in, object_in, object_at, place_at, spec_at, first_place, defined, type_name_at}
use Rattle.unit_rows.specs.Rows.{object_for, spec_of, spec_for, place_in, first_in, local_in}
use Rattle.unit_rows.proofs.ListLemmas.{got}
use Rattle.unit_rows.proofs.NumberLemmas.{local_is, outside_defined}

-- ---- cells

pub none_past : {X : Type 0} (xs : List X) (k : ℕ) → slice_get xs k ≡ None → length xs ≤ k
none_past [] k e = omega arith
none_past (x ∷ xs) zero e = absurd cc
none_past (x ∷ xs) (suc k) e = let h = none_past xs k e in omega arith

abbrev pub in_row : {X : Type 0} → NodeRef → Option (Vec (Option X)) → Option X
in_row {X} at o = option_and_then (λ (row : Vec (Option X)). option_and_then (λ (o : Option X). o) (slice_get row.items at.node)) o

abbrev in_cell : {X : Type 0} → Option (Option X) → Option X
in_cell {X} o = option_and_then (λ (o : Option X). o) o

abbrev pub in_tree : NodeRef → Option FileTree → Option Node
in_tree at o = slice_get (nodes_of o) at.node

module _ {X : Type 0} (says : ℕ → FileTree → ℕ → Option X) (trees : List FileTree) (rows : List (Vec (Option X))) (target : NodeRef → Option X)
    (outside : (at : NodeRef) → in_tree at (slice_get trees at.file) ≡ None → target at ≡ None)
    (inside : (at : NodeRef) (tree : FileTree) (node : Node) → slice_get trees at.file ≡ Some tree → slice_get tree.nodes at.node ≡ Some node → target at ≡ says at.file tree at.node)
    (are : AreRows says trees rows (length trees)) (at : NodeRef) where
  no_file : slice_get trees at.file ≡ None → slice_get rows at.file ≡ None
  no_file e = slice_get_past rows at.file (let low = none_past trees at.file e in let s = are.size in omega arith)

  by_node : (tree : FileTree) → slice_get trees at.file ≡ Some tree → (row : Vec (Option X)) → slice_get rows at.file ≡ Some row
      → (o : Option Node) → slice_get tree.nodes at.node ≡ o → cell rows at ≡ target at
  by_node tree there row row_at None e =
      let low = none_past tree.nodes at.node e in
      let s = (are.each at.file tree row there row_at).size in
      ap (in_row at) row_at ∙ (ap in_cell (slice_get_past row.items at.node (omega arith)) ∙ sym (outside at (ap (in_tree at) there ∙ e)))
  by_node tree there row row_at (Some node) e =
      let low = slice_get_within tree.nodes at.node node e in
      let s = (are.each at.file tree row there row_at).size in
      ap (in_row at) row_at ∙ (ap in_cell (slice_get-get_or row.items at.node None (omega arith))
      ∙ ((are.each at.file tree row there row_at).each at.node low ∙ sym (inside at tree node there e)))

  by_tree : (o : Option FileTree) → slice_get trees at.file ≡ o → cell rows at ≡ target at
  by_tree None e = ap (in_row at) (no_file e) ∙ sym (outside at (ap (in_tree at) e))
  by_tree (Some tree) e =
      let low = slice_get_within trees at.file tree e in
      let s = are.size in
      let (row, row_at) = got rows at.file (omega arith) in
      by_node tree e row row_at (slice_get tree.nodes at.node) refl

  -- A cell has what is said of its node, where nothing is said of what is no node.
  pub cells : cell rows at ≡ target at
  cells = by_tree (slice_get trees at.file) refl

-- the first places of nodes in a list
abbrev pub first_at : List (Option NodeRef) → NodeRef → Option Node → Option ℕ
first_at list at o = option_and_then (λ (node : Node). first_place at list) o

pub firsts_read : (trees : List FileTree) (list : List (Option NodeRef)) (rows : List (Vec (Option ℕ))) → AreRows (first_in list) trees rows (length trees) → (at : NodeRef)
    → cell rows at ≡ first_at list at (in_tree at (slice_get trees at.file))
firsts_read trees list rows are =
    cells (first_in list) trees rows (λ at. first_at list at (in_tree at (slice_get trees at.file))) (λ at none. ap (first_at list at) none)
    (λ at tree node there is. ap (first_at list at) (ap (in_tree at) there ∙ is)) are

-- ---- the tables of a package

module _ (u : Unit) where
  pub objects_read : (rows : List (Vec (Option Object))) → AreRows (object_for u.uses) u.trees rows (length u.trees) → (at : NodeRef) → cell rows at ≡ object_at u at
  objects_read rows are =
      cells (object_for u.uses) u.trees rows (object_at u) (λ at none. ap (option_and_then (λ (node : Node). object_in u.uses at)) none)
      (λ at tree node there is. ap (option_and_then (λ (node : Node). object_in u.uses at)) (ap (in_tree at) there ∙ is)) are

  pub specs_read : (at : NodeRef) → spec_for u.trees at ≡ spec_at u at
  specs_read at = by (slice_get u.trees at.file) where
    by : (o : Option FileTree) → option_and_then (λ (tree : FileTree). spec_of tree at.node) o ≡ option_and_then (λ (node : Node). first_from at.node (specs_in (nodes_of o))) (slice_get (nodes_of o) at.node)
    by None = sym (ap (option_and_then (λ (node : Node). first_from at.node (specs_in []))) (slice_get_past [] at.node (omega arith)))
    by (Some tree) = refl

  abbrev places_by : NodeRef → Option FileTree → Option Place
  places_by at o = place_of (nodes_of o) at.node

  pub places_read : (rows : List (Vec (Option Place))) → AreRows (λ f. place_in) u.trees rows (length u.trees) → (at : NodeRef) → cell rows at ≡ place_at u at
  places_read rows are =
      cells (λ f. place_in) u.trees rows (place_at u) (λ at none. ap (option_and_then (λ (node : Node). places_by at (slice_get u.trees at.file))) none)
      (λ at tree node there is. ap (option_and_then (λ (node : Node). places_by at (slice_get u.trees at.file))) (ap (in_tree at) there ∙ is) ∙ ap (places_by at) there) are

  -- what a node leads to, by the tree of its file
  abbrev leads_by : NodeRef → Node → Option FileTree → Option Lead
  leads_by at node o =
      if is_import node.kind then Some (lead_by u.env (option_map_or (text_of (text_in u at.file)) (option_and_then (λ (tree : FileTree). slice_get tree.tokens node.last) o) []) node.kind) else None

  lead_is : (at : NodeRef) (tree : FileTree) (node : Node) → slice_get u.trees at.file ≡ Some tree → slice_get tree.nodes at.node ≡ Some node → lead_at u at ≡ leads_in u.env u.texts at.file tree at.node
  lead_is at tree node there is =
      ap (option_and_then (lead_of u at.file)) (ap (in_tree at) there ∙ is)
      ∙ (ap (leads_by at node) there ∙ sym (ap (option_and_then (lead_in u.env (text_in u at.file) tree)) is))

  pub leads_read : (rows : List (Vec (Option Lead))) → AreRows (leads_in u.env u.texts) u.trees rows (length u.trees) → (at : NodeRef) → cell rows at ≡ lead_at u at
  leads_read rows are = cells (leads_in u.env u.texts) u.trees rows (lead_at u) (λ at none. ap (option_and_then (lead_of u at.file)) none) lead_is are

  pub locals_read : (list : List NodeRef) (rows : List (Vec (Option ℕ))) → list ≡ defined u → AreRows (local_in u list) u.trees rows (length u.trees) → (at : NodeRef)
      → cell rows at ≡ option_map (λ (n : TypeName). n.local) (type_name_at u at)
  locals_read list rows all are =
      cells (local_in u list) u.trees rows (λ at. option_map (λ (n : TypeName). n.local) (type_name_at u at)) (λ at none. outside_defined u at none)
      (λ at tree node there is. sym (local_is u list at all)) are

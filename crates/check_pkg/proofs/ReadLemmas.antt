-- A package as it is read, with its flags.
use Rattle.std.proofs.Common.{◌≡◌, ◌↔◌, ℕ, ◌<◌, ◌≤◌, IsTrue, Bool, false, List, [], length, slice_get, Option, Some, None, option_and_then, refl, sym, ap, ◌∙◌, subst, arith}
use Rattle.std.specs.Global.{Vec}
use Rattle.std.specs.Option.{option_map_or}
use Rattle.package_faces.specs.Faces.{Face}
use Rattle.go_tree.specs.declared.bindings.Object.{Object}
use Rattle.go_tree.specs.declared.tree.FileTree.{FileTree}
use Rattle.go_tree.specs.declared.tree.Node.{Node}
use Rattle.go_tree.specs.declared.tree.NodeRef.{NodeRef}
use Rattle.object_order.specs.declared.needed.Needed.{Needed}
use Rattle.object_order.specs.Cases.{NeedsOf}
use Rattle.object_order.specs.Names.{IsNamed}
use Rattle.object_order.specs.Paths.{Leads}
use Rattle.object_order.specs.Spots.{World}
use Rattle.package_objects.specs.Declares.{declared}
use Rattle.package_needs.specs.Keys.{IsRowBy}
use Rattle.package_needs.specs.Kin.{IsOwnerAt}
use Rattle.package_needs.specs.Worlds.{IsOrderOf, AreOwners, AreNeedsOf}
use Rattle.unit_read.specs.Imports.{bare}
use Rattle.unit_read.specs.Subjects.{cell, flag}
use Rattle.unit_read.specs.Units.{Unit, nodes_of, is_among}
use Rattle.unit_rows.specs.Circular.{AreCircular}
use Rattle.unit_rows.specs.Cyclic.{is_cyclic, all_cyclic}
use Rattle.unit_rows.specs.Drafts.{package_unit, with_flags, with_owners}
use Rattle.unit_rows.specs.Redeclared.{package_names}
use Rattle.scopes.specs.declared.scope.Named.{Named}
use Rattle.bind.specs.Answers.{HaveNames}
use Rattle.unit_blocks.specs.Blocks.{AreAgain, AreNames, AreNamesOf}
use Rattle.unit_rows.proofs.CyclicLemmas.{marks_cyclic}
use Rattle.unit_rows.proofs.ListLemmas.{got}
use Rattle.unit_rows.proofs.ReadLemmas.{none_past}
use Rattle.std.proofs.lemmas.Option.{slice_get_within, slice_get_past}
use Rattle.check_pkg.specs.Elsewhere.{struct_elsewhere}
use Rattle.check_pkg.specs.Packages.{AreNeeds}
use Rattle.check_pkg.specs.Readings.{IsUnitOf}

some_tree : (a b : FileTree) → ◌≡◌ {A = Option FileTree} (Some a) (Some b) → a ≡ b
some_tree a b e = cc

-- ---- whose methods are declared

module _ (w : World) (trees : List FileTree) (rows : List (Vec (Option NodeRef))) (are : AreOwners w trees rows) where
  owned_row : (at : NodeRef) (node : Node) (tree : FileTree) → slice_get trees at.file ≡ Some tree → slice_get tree.nodes at.node ≡ Some node
      → (row : Vec (Option NodeRef)) → slice_get rows at.file ≡ Some row → IsOwnerAt w at (cell rows at)
  owned_row at node tree there its row row_at = by (slice_get row.items at.node) refl where
    own : (other : FileTree) × (slice_get trees at.file ≡ Some other) × IsRowBy (IsOwnerAt w) at.file row.items (length other.nodes)
    own = are.each at.file row row_at

    cell_is : (o : Option (Option NodeRef)) → slice_get row.items at.node ≡ o → cell rows at ≡ option_and_then (λ (x : Option NodeRef). x) o
    cell_is o e = ap (λ (r : Option (Vec (Option NodeRef))). option_and_then (λ (x : Vec (Option NodeRef)). option_and_then (λ (y : Option NodeRef). y) (slice_get x.items at.node)) r) row_at
        ∙ ap (λ (r : Option (Option NodeRef)). option_and_then (λ (x : Option NodeRef). x) r) e

    by : (o : Option (Option NodeRef)) → slice_get row.items at.node ≡ o → IsOwnerAt w at (cell rows at)
    by None none = absurd (let (other, same, is) = own in
        let one : other ≡ tree = some_tree other tree (sym same ∙ there) in
        let past = none_past row.items at.node none in
        let low = slice_get_within tree.nodes at.node node its in
        let size : length row.items ≡ length tree.nodes = is.size ∙ ap (λ (t : FileTree). length t.nodes) one in omega (arith, past, low, size))
    by (Some o) here = let (other, same, is) = own in subst (λ (x : Option NodeRef). IsOwnerAt w at x) (sym (cell_is (Some o) here)) (is.each at.node o here)

  owned_tree : (at : NodeRef) (node : Node) (o : Option FileTree) → slice_get trees at.file ≡ o → slice_get (nodes_of o) at.node ≡ Some node → IsOwnerAt w at (cell rows at)
  owned_tree at node None none its = absurd (let low : at.node < 0 = slice_get_within (nodes_of None) at.node node its in omega arith)
  owned_tree at node (Some tree) there its =
      let (row, row_at) = got rows at.file (let low = slice_get_within trees at.file tree there in let s = are.size in omega (arith, low, s)) in
      owned_row at node tree there its row row_at

  unowned_row : (at : NodeRef) (o : Option (Vec (Option NodeRef))) → slice_get rows at.file ≡ o → slice_get (nodes_of (slice_get trees at.file)) at.node ≡ None → cell rows at ≡ None
  unowned_row at None gone none = ap (λ (r : Option (Vec (Option NodeRef))). option_and_then (λ (x : Vec (Option NodeRef)). option_and_then (λ (y : Option NodeRef). y) (slice_get x.items at.node)) r) gone
  unowned_row at (Some row) row_at none = let (tree, there, is) = are.each at.file row row_at in
      let past : length tree.nodes ≤ at.node = none_past tree.nodes at.node (sym (ap (λ (o : Option FileTree). slice_get (nodes_of o) at.node) there) ∙ none) in
      ap (λ (r : Option (Vec (Option NodeRef))). option_and_then (λ (x : Vec (Option NodeRef)). option_and_then (λ (y : Option NodeRef). y) (slice_get x.items at.node)) r) row_at
      ∙ ap (λ (r : Option (Option NodeRef)). option_and_then (λ (x : Option NodeRef). x) r) (slice_get_past row.items at.node (let s = is.size in omega (arith, past, s)))

-- ---- needs

abbrev order_of : (uses : List (NodeRef × Object)) (trees : List FileTree) (elsewhere : NodeRef → Bool) (order : List Needed) (owners : List (Vec (Option NodeRef))) → AreNeedsOf uses trees elsewhere order owners → IsOrderOf uses trees elsewhere order
order_of uses trees elsewhere order owners of = record { rows = of.rows; names = of.names; world = of.world; «is» = of.is; ordered = of.ordered }

-- the names that an order of need marks are those that need themselves
are_needs : (u : Unit) (order : List Needed) (owners : List (Vec (Option NodeRef))) → AreNeedsOf u.uses u.trees (struct_elsewhere u) order owners → ((at : NodeRef) → u.cyclic at ≡ is_cyclic u.trees order at)
    → ((at : NodeRef) → u.owner at ≡ cell owners at) → AreNeeds u
are_needs u order owners of flags own = record {
  rows = of.rows;
  names = of.names;
  world = of.world;
  «is» = of.is;
  each = λ at node there. let same = marks_of at node there in (λ h. same.0 (sym (flags at) ∙ h), λ h. flags at ∙ same.1 h);
  others = λ at none. flags at ∙ ap (λ (o : Option Node). option_map_or (λ (node : Node). is_among at (all_cyclic order)) o false) none;
  owned = λ at node there. subst (λ (o : Option NodeRef). IsOwnerAt of.names at o) (sym (own at)) (owned_tree of.names u.trees owners of.owned at node (slice_get u.trees at.file) refl there);
  unowned = λ at none. own at ∙ unowned_row of.names u.trees owners of.owned at (slice_get owners at.file) refl none;
} where
  marks_of : (at : NodeRef) (node : Node) → slice_get (nodes_of (slice_get u.trees at.file)) at.node ≡ Some node → IsTrue (is_cyclic u.trees order at) ↔ (IsNamed (declared u.trees of.rows) at × Leads (NeedsOf of.world) at at)
  marks_of at node there = marks_cyclic u.uses u.trees (struct_elsewhere u) order (order_of u.uses u.trees (struct_elsewhere u) order owners of) at node there

pub is_unit_of : (path : List ℕ) (texts : List (List ℕ)) (trees : List FileTree) (uses : List (NodeRef × Object)) (env : List Face) (seen u : Unit) (before after later redeclared cyclic circular : List (Vec Bool)) (order : List Needed)
    (owners : List (Vec (Option NodeRef))) → seen ≡ package_unit path texts trees uses env before after later owners → u ≡ with_flags seen redeclared cyclic circular → AreAgain (bare seen) (flag redeclared)
    → AreNeedsOf uses trees (struct_elsewhere seen) order owners → ((at : NodeRef) → flag cyclic at ≡ is_cyclic trees order at) → AreCircular (bare seen) (flag circular) → IsUnitOf path texts trees uses env u
is_unit_of path texts trees uses env seen u before after later redeclared cyclic circular order owners seen_is u_is again of needs turn =
    subst (λ (x : Unit). IsUnitOf path texts trees uses env x) (sym (u_is ∙ ap (λ (x : Unit). with_flags x redeclared cyclic circular) seen_is)) record {
      path = refl;
      texts = refl;
      trees = refl;
      uses = refl;
      env = refl;
      redeclared = (let here = subst (λ (x : Unit). AreAgain (bare x) (flag redeclared)) seen_is again in record { rows = here.rows; names = here.names; each = here.each });
      needs = are_needs (package_unit path texts trees uses env redeclared cyclic circular owners) order owners (subst (λ (x : Unit). AreNeedsOf uses trees (struct_elsewhere x) order owners) seen_is of) needs (λ at. refl);
      circular = (let turned = subst (λ (x : Unit). AreCircular (bare x) (flag circular)) seen_is turn in record { each = turned.each; others = turned.others });
    }

-- ---- a package that was read without flags

pub seen_needs : (seen : Unit) (trees : List FileTree) (uses : List (NodeRef × Object)) (elsewhere : NodeRef → Bool) (order slice : List Needed) (owners : List (Vec (Option NodeRef))) → seen.trees ≡ trees → seen.uses ≡ uses
    → elsewhere ≡ struct_elsewhere seen → slice ≡ order → AreNeedsOf uses trees elsewhere order owners → AreNeedsOf seen.uses seen.trees (struct_elsewhere seen) slice owners
seen_needs seen trees uses elsewhere order slice owners trees_are uses_are flags listed needs =
    subst (λ (list : List Needed). AreNeedsOf seen.uses seen.trees (struct_elsewhere seen) list owners) (sym listed)
    (subst (λ (f : NodeRef → Bool). AreNeedsOf seen.uses seen.trees f order owners) flags
    (subst (λ (us : List (NodeRef × Object)). AreNeedsOf us seen.trees elsewhere order owners) (sym uses_are)
    (subst (λ (ts : List FileTree). AreNeedsOf uses ts elsewhere order owners) (sym trees_are) needs)))

pub seen_of : (seen u : Unit) (path : List ℕ) (texts : List (List ℕ)) (trees : List FileTree) (uses : List (NodeRef × Object)) (env : List Face) → seen ≡ package_unit path texts trees uses env [] [] [] []
    → IsUnitOf seen.path seen.texts seen.trees seen.uses seen.env u → IsUnitOf path texts trees uses env u
seen_of seen u path texts trees uses env is of = subst (λ (x : Unit). IsUnitOf x.path x.texts x.trees x.uses x.env u) is of

-- ---- the names of the package block: flags and the types of methods change nothing of them

pub names_owned : (u : Unit) (owners : List (Vec (Option NodeRef))) → package_names (bare (with_owners u owners)) ≡ package_names (bare u)
names_owned u owners = refl

pub names_flagged : (u : Unit) (redeclared cyclic circular : List (Vec Bool)) → package_names (bare (with_flags u redeclared cyclic circular)) ≡ package_names (bare u)
names_flagged u redeclared cyclic circular = refl

-- ---- the names that the files declare

pub names_are : (trees : List FileTree) (rows : List (Vec Named)) → HaveNames trees rows → AreNames trees rows
names_are trees rows has f tree there =
    let (row, at) = got rows f (let low = slice_get_within trees f tree there in let s = has.size in omega (arith, low, s)) in
    subst (λ (names : List Named). AreNamesOf tree names) (sym (ap (λ (o : Option (Vec Named)). option_map_or (λ (r : Vec Named). r.items) o []) at)) (has.each f tree row there at)

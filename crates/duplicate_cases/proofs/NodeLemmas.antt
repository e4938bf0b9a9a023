-- What is gathered over the files of a package.
use Rattle.std.proofs.Common.{◌≡◌, ◌⊎◌, ◌↔◌, ℕ, zero, suc, ◌<◌, ◌+◌, Bool, true, false, if◌then◌else◌, List, [], ◌∷◌, ◌++◌, length, slice_get, Option, Some, None, refl, sym, ap, ◌∙◌, subst, inl, inr, arith}
use Rattle.std.specs.List.{Contains}
use Rattle.std.specs.Option.{option_map_or}
use Rattle.std.proofs.lemmas.Option.{slice_get_within}
use Rattle.std.proofs.lemmas.List.Elements.{Contains-append_left, Contains-append_right, Contains-append_cases}
use Rattle.gv_base.proofs.Lists.{same_some}
use Rattle.go_tree.specs.declared.tree.FileTree.{FileTree}
use Rattle.go_tree.specs.declared.tree.Node.{Node}
use Rattle.go_tree.specs.declared.tree.NodeRef.{NodeRef}
use Rattle.object_order.specs.Spots.{place}
use Rattle.package_objects.specs.Declares.{gather}
use Rattle.typed_marks.specs.declared.item.Item.{Item}
use Rattle.typed_marks.specs.Meanings.{Meaning}
use Rattle.unit_read.specs.Units.{Unit}
use Rattle.duplicate_cases.specs.Duplicates.{is_switch, is_type_switch, listed, is_among, is_duplicate, placed_in, IsDuplicateCase}
use Rattle.duplicate_cases.specs.InCode.{if_so, duplicate_at, switch_duplicates, node_duplicates, nth_duplicates, tree_duplicates, file_duplicates, all_duplicates}

-- one of the first few has it
gathered_at : (g : ℕ → List NodeRef) (x : NodeRef) (n : ℕ) → Contains (gather g n) x → (k : ℕ) × (k < n) × Contains (g k) x
gathered_at g x zero (k, low, e) = absurd (omega (arith, low))
gathered_at g x (suc n) has = elim (Contains-append_cases (gather g n) (g n) x has) [
  | inl before ↦ (let it = gathered_at g x n before in (it.0, let low = it.1 in omega arith, it.2))
  | inr here ↦ (n, omega arith, here)
]

at_gathered : (g : ℕ → List NodeRef) (x : NodeRef) (n k : ℕ) → k < n → Contains (g k) x → Contains (gather g n) x
at_gathered g x zero k low has = absurd (omega arith)
at_gathered g x (suc n) k low has = elim (split k n low) [
  | inl before ↦ Contains-append_left (gather g n) (g n) x (at_gathered g x n k before has)
  | inr same ↦ Contains-append_right (gather g n) (g n) x (subst (λ i. Contains (g i) x) same has)
] where
  split : (k n : ℕ) → k < suc n → (k < n) ⊎ (k ≡ n)
  split k n h = grind arith

-- where a test holds
if_is : (b : Bool) (at x : NodeRef) → Contains (if_so b at) x → (b ≡ true) × (x ≡ at)
if_is true at x (zero, low, e) = (refl, sym e)
if_is true at x (suc k, low, e) = absurd (omega (arith, low))
if_is false at x (k, low, e) = absurd (omega (arith, low))

is_if : (b : Bool) (at : NodeRef) → b ≡ true → Contains (if_so b at) at
is_if true at e = (0, omega arith, refl)
is_if false at e = absurd cc

-- in one that is there
in_some : {X : Type 0} (g : X → List NodeRef) (o : Option X) (x : NodeRef) → Contains (option_map_or g o []) x → (y : X) × (o ≡ Some y) × Contains (g y) x
in_some g None x (k, low, e) = absurd (omega (arith, low))
in_some g (Some y) x has = (y, refl, has)

some_in : {X : Type 0} (g : X → List NodeRef) (o : Option X) (x : NodeRef) (y : X) → o ≡ Some y → Contains (g y) x → Contains (option_map_or g o []) x
some_in {X} g o x y e has = subst (λ (p : Option X). Contains (option_map_or g p []) x) (sym e) has

in_test : (b : Bool) (l : List NodeRef) (x : NodeRef) → Contains (if b then l else []) x → (b ≡ true) × Contains l x
in_test true l x has = (refl, has)
in_test false l x (k, low, e) = absurd (omega (arith, low))

test_in : (b : Bool) (l : List NodeRef) (x : NodeRef) → b ≡ true → Contains l x → Contains (if b then l else []) x
test_in true l x e has = has
test_in false l x e has = absurd cc

module _ (u : Unit) (marks : Item → Meaning) (at : NodeRef) where
  made : (file : ℕ) (tree : FileTree) (n : ℕ) (switch : Node) (i m : ℕ) → slice_get u.trees file ≡ Some tree → slice_get tree.nodes n ≡ Some switch → is_switch switch.kind ≡ true
      → slice_get (listed tree.nodes switch) i ≡ Some m → is_among (is_type_switch switch.kind) (placed_in marks file) (listed tree.nodes switch) m i ≡ true → at ≡ place file m → IsDuplicateCase u marks at
  made file tree n switch i m has_tree has_node switches listed_at among same = record {
    tree = tree;
    n = n;
    switch = switch;
    i = i;
    has_tree = ap (λ k. slice_get u.trees k) here ∙ has_tree;
    has_node = has_node;
    switches = switches;
    listed_at = listed_at ∙ ap (λ k. Some k) (sym node);
    twice = ap (λ k. is_duplicate (is_type_switch switch.kind) (placed_in marks k) (listed tree.nodes switch) i) here
        ∙ (ap (λ o. option_map_or (λ x. is_among (is_type_switch switch.kind) (placed_in marks file) (listed tree.nodes switch) x i) o false) listed_at ∙ among);
  } where
    here : at.file ≡ file
    here = ap (λ (x : NodeRef). x.file) same

    node : at.node ≡ m
    node = ap (λ (x : NodeRef). x.node) same

  of_list : (file : ℕ) (tree : FileTree) (n : ℕ) (switch : Node) → slice_get u.trees file ≡ Some tree → slice_get tree.nodes n ≡ Some switch → is_switch switch.kind ≡ true
      → Contains (switch_duplicates marks file tree.nodes switch) at → IsDuplicateCase u marks at
  of_list file tree n switch has_tree has_node switches has =
      let list = listed tree.nodes switch in
      let placed = placed_in marks file in
      let (i, low, more) = gathered_at (duplicate_at (is_type_switch switch.kind) placed file list) at (length list) has in
      let (m, listed_at, one) = in_some (λ k. if_so (is_among (is_type_switch switch.kind) placed list k i) (place file k)) (slice_get list i) at more in
      let (among, same) = if_is (is_among (is_type_switch switch.kind) placed list m i) (place file m) at one in
      made file tree n switch i m has_tree has_node switches listed_at among same

  of_tree : (file : ℕ) (tree : FileTree) → slice_get u.trees file ≡ Some tree → Contains (tree_duplicates marks file tree) at → IsDuplicateCase u marks at
  of_tree file tree has_tree has =
      let (n, low, more) = gathered_at (nth_duplicates marks file tree.nodes) at (length tree.nodes) has in
      let (switch, has_node, one) = in_some (node_duplicates marks file tree.nodes) (slice_get tree.nodes n) at more in
      let (switches, listed_here) = in_test (is_switch switch.kind) (switch_duplicates marks file tree.nodes switch) at one in
      of_list file tree n switch has_tree has_node switches listed_here

  to : Contains (all_duplicates u.trees marks) at → IsDuplicateCase u marks at
  to has =
      let (file, low, more) = gathered_at (file_duplicates u.trees marks) at (length u.trees) has in
      let (tree, has_tree, one) = in_some (tree_duplicates marks file) (slice_get u.trees file) at more in
      of_tree file tree has_tree one

  back : IsDuplicateCase u marks at → Contains (all_duplicates u.trees marks) at
  back is =
      let list = listed is.tree.nodes is.switch in
      let placed = placed_in marks at.file in
      at_gathered (file_duplicates u.trees marks) at (length u.trees) at.file (slice_get_within u.trees at.file is.tree is.has_tree)
      (some_in (tree_duplicates marks at.file) (slice_get u.trees at.file) at is.tree is.has_tree
      (at_gathered (nth_duplicates marks at.file is.tree.nodes) at (length is.tree.nodes) is.n (slice_get_within is.tree.nodes is.n is.switch is.has_node)
      (some_in (node_duplicates marks at.file is.tree.nodes) (slice_get is.tree.nodes is.n) at is.switch is.has_node
      (test_in (is_switch is.switch.kind) (switch_duplicates marks at.file is.tree.nodes is.switch) at is.switches
      (at_gathered (duplicate_at (is_type_switch is.switch.kind) placed at.file list) at (length list) is.i (slice_get_within list is.i at.node is.listed_at)
      (some_in (λ n. if_so (is_among (is_type_switch is.switch.kind) placed list n is.i) (place at.file n)) (slice_get list is.i) at at.node is.listed_at
      (is_if (is_among (is_type_switch is.switch.kind) placed list at.node is.i) (place at.file at.node)
      (sym (ap (λ o. option_map_or (λ m. is_among (is_type_switch is.switch.kind) placed list m is.i) o false) is.listed_at) ∙ is.twice))))))))

  pub gathered_are : (list : List NodeRef) → list ≡ all_duplicates u.trees marks → Contains list at ↔ IsDuplicateCase u marks at
  gathered_are list same = (λ has. to (subst (λ (l : List NodeRef). Contains l at) same has), λ is. subst (λ (l : List NodeRef). Contains l at) (sym same) (back is))

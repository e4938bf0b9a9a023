-- Where nothing in declarations of variables leads on, no variable reaches itself.
use Rattle.std.proofs.Common.{◌≡◌, ℕ, zero, suc, ◌<◌, ◌⊎◌, ◌&&◌, ◌||◌, not, Bool, true, false, if◌then◌else◌, List, [], ◌∷◌, ◌++◌, length, map, slice_get, slice_index_or, Option, Some, None, option_map, option_and_then, refl, sym, ap, ◌∙◌, subst, inl, inr, arith}
use Rattle.std.specs.Global.{Vec}
use Rattle.std.specs.List.{Contains, cons_option}
use Rattle.std.specs.Option.{option_map_or}
use Rattle.std.proofs.lemmas.Option.{slice_get_within}
use Rattle.gv_base.proofs.Lists.{some_once, nothing_there, map_get, get_map}
use Rattle.const_tree.proofs.ListLemmas.{gather_cases}
use Rattle.go_tree.specs.Spells.{Among}
use Rattle.go_tree.specs.declared.tree.FileTree.{FileTree}
use Rattle.go_tree.specs.declared.tree.Node.{Node}
use Rattle.go_tree.specs.declared.tree.NodeKind.{NodeKind}
use Rattle.go_tree.specs.declared.tree.NodeKind.TheVariants as k
use Rattle.go_tree.specs.declared.tree.NodeRef.{NodeRef}
use Rattle.node_values.specs.Trees.{IsPart, Holds, part as by_part, deep}
use Rattle.object_order.specs.Cases.{HasMention, IsPart as IsPartOf, Within, itself, deeper}
use Rattle.object_order.specs.Names.{IsNamed}
use Rattle.object_order.specs.Paths.{Path, Leads}
use Rattle.object_order.specs.Spots.{World, place}
use Rattle.object_order.specs.Views.{same_key, node_in}
use Rattle.object_order.specs.declared.spot.Entry.{Entry}
use Rattle.object_order.specs.declared.spot.Role.TheVariants as role
use Rattle.object_order.specs.declared.spot.Root.{Root}
use Rattle.package_objects.specs.Declares.{gather, is_list, listed, items_at, items, part, rooted, value_place}
use Rattle.type_model.specs.GoTypes.{GoType}
use Rattle.typed_marks.specs.declared.item.Item.{Item}
use Rattle.typed_marks.specs.declared.item.Stage.TheVariants as stage
use Rattle.typed_marks.specs.Meanings.{Meaning, Right, Wrong, Beyond, Quiet, Wishes, Declares}
use Rattle.typed_tree.specs.Meanings.{Known}
use Rattle.typed_tree.specs.Places.{is_package}
use Rattle.unit_read.specs.Subjects.{flag}
use Rattle.unit_read.specs.Imports.{bare}
use Rattle.unit_read.specs.Units.{Unit, node_at}
use Rattle.unit_rows.proofs.ListLemmas.{got}
use Rattle.rule_words.specs.Asking.{item}
use Rattle.selected_methods.specs.Owners.{is_selector, is_good, judged, type_told, type_placed, owner_part, owner_good, owner_in, owner_of}
use Rattle.selected_methods.specs.Selected.{IsSelectedMethod}
use Rattle.value_circles.specs.Bodies.{name_slot, body_entry, named_body, body_of, body_at, nth_body, tree_bodies, file_bodies, body_entries, opened_kind, opened_node, opened, opened_trees}
use Rattle.value_circles.specs.Circles.{first_named, RefersTo, world_of, IsInitialCircle}
use Rattle.value_circles.specs.Values.{is_vars, value_slot, value_of, roots, valued_entry, nth_entry, valued, spec_entries, spec_at, nth_spec, specs_of, top_entries, nth_top, tree_entries, file_entries, value_entries}
use Rattle.check_pkg.specs.Initial.{IsInitialFault}
use Rattle.check_pkg.specs.Leading.{has_names, has_names_at, StandsNamed, AreNamedRows, tells_type, has_type, has_owner, selects, may_select, leads_on, IsIn, is_vars as declares_vars, LeadsInFile}
use Rattle.check_pkg.specs.References.{reference_at, IsReference, AreReferences}
use Rattle.check_pkg.proofs.FirstLemmas.{of_some, of_if, of_one, append_cases, among_in, first_is, first_in}
use Rattle.check_pkg.proofs.Lists.{contains_at}

-- ---- nodes of opened trees

same_names : (kind : NodeKind) → has_names (opened_kind kind) ≡ has_names kind
same_names k.Block = refl
same_names _ = refl

same_vars : (kind : NodeKind) → is_vars (opened_kind kind) ≡ declares_vars kind
same_vars k.Block = refl
same_vars k.Var = refl
same_vars k.VarGroup = refl
same_vars _ = refl

slot_named : (kind : NodeKind) (slot : ℕ) → value_slot kind ≡ Some slot → has_names kind ≡ true
slot_named k.VarValues slot e = refl
slot_named k.VarTypedValues slot e = refl
slot_named _ slot e = absurd cc

list_named : (kind : NodeKind) → is_list kind ≡ true → has_names kind ≡ true
list_named k.Names e = refl
list_named k.Exprs e = refl
list_named _ e = absurd cc

name_named : (kind : NodeKind) (slot : ℕ) → name_slot kind ≡ Some slot → has_names kind ≡ true
name_named k.FuncDecl slot e = refl
name_named k.MethodDecl slot e = refl
name_named _ slot e = absurd cc

names_there : (nodes : List Node) (p : ℕ) (node : Node) → slice_get nodes p ≡ Some node → has_names node.kind ≡ true → has_names_at nodes p ≡ true
names_there nodes p node there is = ap (λ (o : Option Node). option_map_or (λ (x : Node). has_names x.kind) o false) there ∙ is

part_back : (nodes : List Node) (p n : ℕ) → IsPart (map opened_node nodes) p n → IsPart nodes p n
part_back nodes p n (node, there, has) =
    let (m, m_at, same) = map_get opened_node nodes p node there in
    (m, m_at, subst (λ (x : Node). Contains x.parts n) (sym same) has)

names_back : (nodes : List Node) (p : ℕ) (node : Node) → slice_get (map opened_node nodes) p ≡ Some node → has_names node.kind ≡ true → has_names_at nodes p ≡ true
names_back nodes p node there is =
    let (m, m_at, same) = map_get opened_node nodes p node there in
    names_there nodes p m m_at (sym (same_names m.kind) ∙ (ap (λ (x : Node). has_names x.kind) same ∙ is))

part_at : (nodes : List Node) (p i n : ℕ) (node : Node) → slice_get nodes p ≡ Some node → slice_get node.parts i ≡ Some n → IsPart nodes p n
part_at nodes p i n node there is = (node, there, contains_at node.parts i n is)

part_then : (nodes : List Node) (p q n : ℕ) → IsPart nodes p q → Holds nodes q n → Holds nodes p n
part_then nodes p q n is (by_part more) = deep (by_part is) more
part_then nodes p q n is (deep held more) = deep (part_then nodes p q _ is held) more

pub holds_in : (nodes : List Node) (p q n : ℕ) → Holds nodes p q → IsIn nodes q n → Holds nodes p n
holds_in nodes p q n held (inl same) = subst (λ (x : ℕ). Holds nodes p x) (sym same) held
holds_in nodes p q n (by_part is) (inr more) = part_then nodes p q n is more
holds_in nodes p q n (deep {q = r} held is) (inr more) = holds_in nodes p r n held (inr (part_then nodes r q n is more))

-- an item of what stands in a slot: the part itself, or one of its list
record IsItem (nodes : List Node) (o : Option ℕ) (n : ℕ) : Type 0 where
  l : ℕ
  there : o ≡ Some l
  node : Node
  node_there : slice_get nodes l ≡ Some node
  stands : (n ≡ l) ⊎ ((is_list node.kind ≡ true) × Contains node.parts n)

item_of : (nodes : List Node) (o : Option ℕ) (j n : ℕ) → slice_get (items nodes o) j ≡ Some n → IsItem nodes o n
item_of nodes o j n h = from (of_some (items_at nodes) o j n h) where
  listed_is : (b : Bool) (l : ℕ) (node : Node) → is_list node.kind ≡ b → slice_get (if b then node.parts else l ∷ []) j ≡ Some n → (n ≡ l) ⊎ ((is_list node.kind ≡ true) × Contains node.parts n)
  listed_is true l node e is = inr (e, contains_at node.parts j n is)
  listed_is false l node e is = inl (sym (of_one l n j is))

  from : (l : ℕ) × (o ≡ Some l) × (slice_get (items_at nodes l) j ≡ Some n) → IsItem nodes o n
  from (l, there, h1) =
      let (node, node_there, h2) = of_some (listed l) (slice_get nodes l) j n h1 in
      record { l = l; there = there; node = node; node_there = node_there; stands = listed_is (is_list node.kind) l node refl h2 }

item_named : (nodes : List Node) (p i n : ℕ) (node : Node) → slice_get (map opened_node nodes) p ≡ Some node → has_names node.kind ≡ true → IsItem (map opened_node nodes) (slice_get node.parts i) n → StandsNamed nodes n
item_named nodes p i n node there names item = by item.stands where
  by : (n ≡ item.l) ⊎ ((is_list item.node.kind ≡ true) × Contains item.node.parts n) → StandsNamed nodes n
  by (inl same) = (p, part_back nodes p n (subst (λ (x : ℕ). IsPart (map opened_node nodes) p x) (sym same) (part_at (map opened_node nodes) p i item.l node there item.there)), names_back nodes p node there names)
  by (inr (is, has)) = (item.l, part_back nodes item.l n (item.node, item.node_there, has), names_back nodes item.l item.node item.node_there (list_named item.node.kind is))

item_held : (nodes : List Node) (q p i n : ℕ) (node : Node) → IsPart nodes q p → slice_get (map opened_node nodes) p ≡ Some node → IsItem (map opened_node nodes) (slice_get node.parts i) n → Holds nodes q n
item_held nodes q p i n node within there item = by item.stands where
  to_item : Holds nodes q item.l
  to_item = deep (by_part within) (part_back nodes p item.l (part_at (map opened_node nodes) p i item.l node there item.there))

  by : (n ≡ item.l) ⊎ ((is_list item.node.kind ≡ true) × Contains item.node.parts n) → Holds nodes q n
  by (inl same) = subst (λ (x : ℕ). Holds nodes q x) (sym same) to_item
  by (inr (is, has)) = deep to_item (part_back nodes item.l n (item.node, item.node_there, has))

-- ---- declared names

-- a name that stands where names of variables, functions and methods do
record IsDeclared (trees : List FileTree) (name : NodeRef) : Type 0 where
  tree : FileTree
  has_tree : slice_get trees name.file ≡ Some tree
  stands : StandsNamed tree.nodes name.node

declared : (trees : List FileTree) (f n : ℕ) (tree : FileTree) (name : NodeRef) → place f n ≡ name → slice_get trees f ≡ Some tree → StandsNamed tree.nodes n → IsDeclared trees name
declared trees f n tree name is has stands = subst (λ (x : NodeRef). IsDeclared trees x) is (record { tree = tree; has_tree = has; stands = stands })

-- a variable with a value stands in a declaration, which holds what its value is made of
record IsValue (trees : List FileTree) (e : Entry) : Type 0 where
  f : ℕ
  tree : FileTree
  has_tree : slice_get trees f ≡ Some tree
  i : ℕ
  n : ℕ
  top : slice_get tree.tops i ≡ Some n
  node : Node
  node_there : slice_get tree.nodes n ≡ Some node
  vars : declares_vars node.kind ≡ true
  file : e.name.file ≡ f
  named : IsDeclared trees e.name
  holds : (root : Root) → Among root e.roots → Holds tree.nodes n root.node

root_is : (nodes : List Node) (values : Option ℕ) (i : ℕ) (o : Option ℕ) (root : Root) → slice_get (items nodes values) i ≡ o → Among root (cons_option (rooted role.Resting o) []) → slice_get (items nodes values) i ≡ Some root.node
root_is nodes values i None root is among = absurd among
root_is nodes values i (Some n) root is (inl same) = is ∙ ap (λ (r : Root). Some r.node) same
root_is nodes values i (Some n) root is (inr more) = absurd more

-- a specification in opened trees
spec_is : (trees : List FileTree) (f i n sp slot j name : ℕ) (tree : FileTree) (top spec : Node) → slice_get trees f ≡ Some tree → slice_get tree.tops i ≡ Some n
    → slice_get (map opened_node tree.nodes) n ≡ Some top → is_vars top.kind ≡ true → (l : ℕ) → slice_get top.parts l ≡ Some sp → slice_get (map opened_node tree.nodes) sp ≡ Some spec → value_slot spec.kind ≡ Some slot
    → slice_get (items (map opened_node tree.nodes) (part spec 0)) j ≡ Some name → IsValue trees (valued_entry f (map opened_node tree.nodes) (part spec slot) j name)
spec_is trees f i n sp slot j name tree top spec has_tree top_is top_there vars l part_is spec_there values name_is =
    let (m, m_at, same) = map_get opened_node tree.nodes n top top_there in
    record {
      f = f;
      tree = tree;
      has_tree = has_tree;
      i = i;
      n = n;
      top = top_is;
      node = m;
      node_there = m_at;
      vars = sym (same_vars m.kind) ∙ (ap (λ (x : Node). is_vars x.kind) same ∙ vars);
      file = refl;
      named = record {
        tree = tree;
        has_tree = has_tree;
        stands = item_named tree.nodes sp 0 name spec spec_there (slot_named spec.kind slot values) (item_of (map opened_node tree.nodes) (part spec 0) j name name_is);
      };
      holds = λ root among.
          let place_is = value_place true (length (items (map opened_node tree.nodes) (part spec slot))) j in
          let is = root_is (map opened_node tree.nodes) (part spec slot) place_is (slice_get (items (map opened_node tree.nodes) (part spec slot)) place_is) root refl among in
          item_held tree.nodes n sp slot root.node spec (part_back tree.nodes n sp (part_at (map opened_node tree.nodes) n l sp top top_there part_is)) spec_there
          (item_of (map opened_node tree.nodes) (part spec slot) place_is root.node is);
    }

-- a declaration of some values in opened trees
in_spec : (trees : List FileTree) (f i n sp o : ℕ) (tree : FileTree) (top : Node) (e : Entry) → slice_get trees f ≡ Some tree → slice_get tree.tops i ≡ Some n → slice_get (map opened_node tree.nodes) n ≡ Some top
    → is_vars top.kind ≡ true → (l : ℕ) → slice_get top.parts l ≡ Some sp → slice_get (spec_at f (map opened_node tree.nodes) sp) o ≡ Some e → IsValue trees e
in_spec trees f i n sp o tree top e has_tree top_is top_there vars l part_is h = from (of_some (spec_entries f (map opened_node tree.nodes)) (slice_get (map opened_node tree.nodes) sp) o e h) where
  named : (spec : Node) (slot j o : ℕ) → slice_get (map opened_node tree.nodes) sp ≡ Some spec → value_slot spec.kind ≡ Some slot
      → slice_get (nth_entry f (map opened_node tree.nodes) spec (part spec slot) j) o ≡ Some e → IsValue trees e
  named spec slot j o spec_there values h3 =
      let nodes = map opened_node tree.nodes in
      let (name, name_is, h4) = of_some (λ x. valued_entry f nodes (part spec slot) j x ∷ []) (slice_get (items nodes (part spec 0)) j) o e h3 in
      subst (λ (x : Entry). IsValue trees x) (of_one (valued_entry f nodes (part spec slot) j name) e o h4)
      (spec_is trees f i n sp slot j name tree top spec has_tree top_is top_there vars l part_is spec_there values name_is)

  slotted : (spec : Node) → slice_get (map opened_node tree.nodes) sp ≡ Some spec → (slot : ℕ) × (value_slot spec.kind ≡ Some slot) × (slice_get (valued f (map opened_node tree.nodes) spec slot) o ≡ Some e) → IsValue trees e
  slotted spec spec_there (slot, values, h2) =
      let nodes = map opened_node tree.nodes in
      let (j, o2, j_low, h3) = gather_cases (nth_entry f nodes spec (part spec slot)) (length (items nodes (part spec 0))) o e h2 in
      named spec slot j o2 spec_there values h3

  from : (spec : Node) × (slice_get (map opened_node tree.nodes) sp ≡ Some spec) × (slice_get (spec_entries f (map opened_node tree.nodes) spec) o ≡ Some e) → IsValue trees e
  from (spec, spec_there, h1) = slotted spec spec_there (of_some (valued f (map opened_node tree.nodes) spec) (value_slot spec.kind) o e h1)

in_top : (trees : List FileTree) (f i n o : ℕ) (tree : FileTree) (e : Entry) → slice_get trees f ≡ Some tree → slice_get tree.tops i ≡ Some n → slice_get (top_entries f (map opened_node tree.nodes) n) o ≡ Some e → IsValue trees e
in_top trees f i n o tree e has_tree top_is h = from (of_some (specs_of f (map opened_node tree.nodes)) (slice_get (map opened_node tree.nodes) n) o e h) where
  listed_in : (top : Node) → slice_get (map opened_node tree.nodes) n ≡ Some top → is_vars top.kind ≡ true → slice_get (gather (nth_spec f (map opened_node tree.nodes) top) (length top.parts)) o ≡ Some e → IsValue trees e
  listed_in top top_there vars h2 =
      let (l, o2, l_low, h3) = gather_cases (nth_spec f (map opened_node tree.nodes) top) (length top.parts) o e h2 in
      let (sp, part_is, h4) = of_some (spec_at f (map opened_node tree.nodes)) (part top l) o2 e h3 in
      in_spec trees f i n sp o2 tree top e has_tree top_is top_there vars l part_is h4

  from : (top : Node) × (slice_get (map opened_node tree.nodes) n ≡ Some top) × (slice_get (specs_of f (map opened_node tree.nodes) top) o ≡ Some e) → IsValue trees e
  from (top, top_there, h1) =
      let (vars, h2) = of_if (is_vars top.kind) (gather (nth_spec f (map opened_node tree.nodes) top) (length top.parts)) o e h1 in
      listed_in top top_there vars h2

in_tree : (trees : List FileTree) (f o : ℕ) (tree : FileTree) (e : Entry) → slice_get trees f ≡ Some tree → slice_get (tree_entries f (opened tree)) o ≡ Some e → IsValue trees e
in_tree trees f o tree e has_tree h =
    let (i, o2, i_low, h1) = gather_cases (nth_top f (opened tree)) (length tree.tops) o e h in
    let (n, top_is, h2) = of_some (top_entries f (map opened_node tree.nodes)) (slice_get tree.tops i) o2 e h1 in
    in_top trees f i n o2 tree e has_tree top_is h2

value_is : (trees : List FileTree) (o : ℕ) (e : Entry) → slice_get (value_entries (opened_trees trees)) o ≡ Some e → IsValue trees e
value_is trees o e h =
    let (f, o1, f_low, h1) = gather_cases (file_entries (opened_trees trees)) (length (opened_trees trees)) o e h in
    let (shut, has_shut, h2) = of_some (tree_entries f) (slice_get (opened_trees trees) f) o1 e h1 in
    let (tree, has_tree, same) = map_get opened trees f shut has_shut in
    in_tree trees f o1 tree e has_tree (subst (λ (t : FileTree). slice_get (tree_entries f t) o1 ≡ Some e) (sym same) h2)

body_is : (trees : List FileTree) (o : ℕ) (e : Entry) → slice_get (body_entries trees) o ≡ Some e → IsDeclared trees e.name
body_is trees o e h =
    let (f, o1, f_low, h1) = gather_cases (file_bodies trees) (length trees) o e h in
    let (tree, has_tree, h2) = of_some (tree_bodies f) (slice_get trees f) o1 e h1 in
    let (i, o2, i_low, h3) = gather_cases (nth_body f tree) (length tree.tops) o1 e h2 in
    let (n, top, h4) = of_some (body_at f tree.nodes) (slice_get tree.tops i) o2 e h3 in
    let (node, node_there, h5) = of_some (body_of f tree.nodes) (slice_get tree.nodes n) o2 e h4 in
    let (slot, slot_is, h6) = of_some (named_body f tree.nodes node) (name_slot node.kind) o2 e h5 in
    let (name, name_is, h7) = of_some (λ x. body_entry f tree.nodes node x ∷ []) (part node slot) o2 e h6 in
    declared trees f name tree e.name (ap (λ (x : Entry). x.name) (of_one (body_entry f tree.nodes node name) e o2 h7)) has_tree
    (n, part_at tree.nodes n slot name node node_there name_is, names_there tree.nodes n node node_there (name_named node.kind slot slot_is))

-- what a name of a variable, a function or a method is
entry_declared : (trees : List FileTree) (at : NodeRef) (e : Entry) → first_named at (value_entries (opened_trees trees) ++ body_entries trees) ≡ Some e → IsDeclared trees at
entry_declared trees at e h =
    let (o, there, name) = first_is at (value_entries (opened_trees trees) ++ body_entries trees) e h in
    subst (λ (x : NodeRef). IsDeclared trees x) (sym name) (elim (append_cases (value_entries (opened_trees trees)) (body_entries trees) o e there) [
      | inl (i, is) ↦ (value_is trees i e is).named
      | inr (i, is) ↦ body_is trees i e is
    ])

-- ---- what lies in a node

within_is : (trees : List FileTree) (meant : NodeRef → Option NodeRef) (bodies : List Entry) (f : ℕ) (tree : FileTree) → slice_get trees f ≡ Some tree → (a b : NodeRef) → a.file ≡ f
    → Within (world_of (opened_trees trees) meant bodies) a b → (b.file ≡ f) × IsIn tree.nodes a.node b.node
within_is trees meant bodies f tree has a b at_f (itself same) = (ap (λ (x : NodeRef). x.file) (sym same) ∙ at_f, inl (ap (λ (x : NodeRef). x.node) (sym same)))
within_is trees meant bodies f tree has a b at_f (deeper {b = c} p more) =
    let (b_file, inside) = within_is trees meant bodies f tree has c b (p.file ∙ at_f) more in
    (b_file, inr (holds_in tree.nodes a.node c.node b.node (by_part part_is) inside))
  where
    opened_at : slice_get (map opened_node tree.nodes) a.node ≡ Some p.node
    opened_at =
        sym (ap (option_and_then (λ (t : FileTree). slice_get t.nodes a.node)) (ap (slice_get (opened_trees trees)) at_f ∙ get_map opened trees f tree has))
        ∙ p.«is»

    part_is : IsPart tree.nodes a.node c.node
    part_is = part_back tree.nodes a.node c.node (p.node, opened_at, among_in c.node p.node.parts p.among)

-- ---- what is selected

told_type : (m : Meaning) (of : GoType) → type_told m ≡ Some of → tells_type m ≡ true
told_type (Right x) of e = by (is_package x.mode) e where
  by : (b : Bool) → (if b then None else Some x.of) ≡ Some of → not b ≡ true
  by true e = absurd (nothing_there of e)
  by false e = refl
told_type (Wrong rule) of e = absurd (nothing_there of e)
told_type (Beyond limit) of e = absurd (nothing_there of e)
told_type Quiet of e = absurd (nothing_there of e)
told_type (Wishes demand wish) of e = absurd (nothing_there of e)
told_type (Declares d) of e = absurd (nothing_there of e)

told_select : (u : Unit) (marks : Item → Meaning) (at : NodeRef) (of : GoType) → owner_of u marks at ≡ Some of → may_select u marks at ≡ true
told_select u marks at of e = by (node_at u at) e where
  by_part_of : (f : ℕ) (o : Option ℕ) → option_and_then (type_placed marks f) o ≡ Some of → option_map_or (has_type marks f) o false ≡ true
  by_part_of f None e = absurd (nothing_there of e)
  by_part_of f (Some n) e = told_type (marks (item stage.Placed f n)) of e

  by_good : (good : Bool) (node : Node) → (if good then owner_part marks at node else None) ≡ Some of → has_owner marks at.file node ≡ true
  by_good true node e = by_part_of at.file (part node 0) e
  by_good false node e = absurd (nothing_there of e)

  by_kind : (is : Bool) (node : Node) → (if is then owner_good marks at node else None) ≡ Some of → (is && has_owner marks at.file node) ≡ true
  by_kind true node e = by_good (is_good (judged marks at.file at.node)) node e
  by_kind false node e = absurd (nothing_there of e)

  by : (o : Option Node) → option_and_then (owner_in marks at) o ≡ Some of → option_map_or (selects marks at.file) o false ≡ true
  by None e = absurd (nothing_there of e)
  by (Some node) e = by_kind (is_selector node.kind) node e

-- ---- no variable reaches itself

or_right : (a b : Bool) → b ≡ true → (a || b) ≡ true
or_right true b e = refl
or_right false b e = e

or_left : (a b : Bool) → a ≡ true → (a || b) ≡ true
or_left true b e = refl
or_left false b e = absurd cc

module _ (u : Unit) (marks : Item → Meaning) (rows : List (Vec Bool)) (named : AreNamedRows u.trees (length u.trees) rows) where
  flagged : (at : NodeRef) → IsDeclared u.trees at → flag rows at ≡ true
  flagged at is =
      let (row, row_at) = got rows at.file (let low = slice_get_within u.trees at.file is.tree is.has_tree in let s = named.size in omega (arith, low, s)) in
      ap (λ (o : Option (Vec Bool)). option_map_or (λ (r : Vec Bool). slice_index_or r.items at.node false) o false) row_at
      ∙ named.each at.file is.tree row is.has_tree row_at at.node is.stands

  refers : (meant : NodeRef → Option NodeRef) → AreReferences u marks meant → (n z : NodeRef) → meant n ≡ Some z → IsDeclared u.trees z → leads_on (bare u) marks (flag rows) n ≡ true
  refers meant refer n z is declared = by ((refer n z).0 is) where
    by : IsReference u marks n z → leads_on (bare u) marks (flag rows) n ≡ true
    by (inl ref) = or_left (option_map_or (flag rows) (reference_at (bare u) marks n) false) (may_select (bare u) marks n) (ap (λ (o : Option NodeRef). option_map_or (flag rows) o false) ref ∙ flagged z declared)
    by (inr (none, selected)) = or_right (option_map_or (flag rows) (reference_at (bare u) marks n) false) (may_select (bare u) marks n) (told_select (bare u) marks n selected.0 selected.1)

  module _ (none : (f m : ℕ) → LeadsInFile (bare u) marks (flag rows) f m → ⊥) (meant : NodeRef → Option NodeRef) (refer : AreReferences u marks meant) (at : NodeRef)
      (variable : IsNamed (value_entries (opened_trees u.trees)) at) where
    abbrev w : World
    w = world_of (opened_trees u.trees) meant (body_entries u.trees)

    no_step : (z : NodeRef) → RefersTo w at z → ⊥
    no_step z (role, from, root, (n, within, mention)) =
        let (o, there, name) = first_in at (value_entries (opened_trees u.trees)) (body_entries u.trees) root.entry variable root.declared in
        let v = value_is u.trees o root.entry there in
        let from_file : from.file ≡ v.f = sym (ap (λ (x : NodeRef). x.file) root.at_is) ∙ (ap (λ (x : NodeRef). x.file) name ∙ v.file) in
        let from_node : from.node ≡ root.root.node = sym (ap (λ (x : NodeRef). x.node) root.at_is) in
        let (n_file, inside) = within_is u.trees meant (body_entries u.trees) v.f v.tree v.has_tree from n from_file within in
        let held = holds_in v.tree.nodes v.n from.node n.node (subst (λ (x : ℕ). Holds v.tree.nodes v.n x) (sym from_node) (v.holds root.root root.among)) inside in
        let loud = refers meant refer n z mention.meant (entry_declared u.trees z mention.entry mention.declared) in
        none v.f n.node (v.tree, v.has_tree, v.i, (v.n, v.top, (v.node, v.node_there, v.vars, (inr held, ap (λ (f : ℕ). leads_on (bare u) marks (flag rows) (place f n.node)) (sym n_file) ∙ loud))))

    no_path : Leads (RefersTo w) at at → ⊥
    no_path ([], edge) = no_step at edge
    no_path (z ∷ via, (edge, rest)) = no_step z edge

  pub no_circle : ((f m : ℕ) → LeadsInFile (bare u) marks (flag rows) f m → ⊥) → (at : NodeRef) → IsInitialFault u marks at → ⊥
  no_circle none at (meant, refer, circle) = no_path none meant refer at circle.variable circle.reaches

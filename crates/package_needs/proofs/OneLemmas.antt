-- Two descriptions of one package say the same.
use Rattle.std.proofs.Common.{◌≡◌, ◌↔◌, ◌⊎◌, ℕ, zero, suc, ◌<◌, ◌≤◌, IsTrue, Bool, List, [], ◌∷◌, length, slice_get, Option, Some, None, option_and_then, Contains, refl, sym, ap, ◌∙◌, subst, inl, inr, arith}
use Rattle.std.specs.Global.{Vec}
use Rattle.std.specs.Option.{option_map_or}
use Rattle.std.proofs.Math.Path.{fun_ext}
use Rattle.std.proofs.lemmas.Option.{slice_get_within, slice_get-get_or}
use Rattle.go_tree.specs.Bindings.{IsBefore, AreInOrder, Has}
use Rattle.go_tree.specs.Spells.{Among}
use Rattle.go_tree.specs.declared.bindings.Object.{Object}
use Rattle.go_tree.specs.declared.tree.FileTree.{FileTree}
use Rattle.go_tree.specs.declared.tree.Node.{Node}
use Rattle.go_tree.specs.declared.tree.NodeRef.{NodeRef}
use Rattle.object_order.specs.declared.needed.Needed.{Needed}
use Rattle.object_order.specs.declared.spot.Entry.{Entry}
use Rattle.object_order.specs.Cases.{NeedsOf}
use Rattle.object_order.specs.Names.{IsNamed}
use Rattle.object_order.specs.Orders.{IsNeedOrder}
use Rattle.object_order.specs.Paths.{Leads}
use Rattle.object_order.specs.Spots.{World, place}
use Rattle.object_order.specs.Views.{meant_in, itself}
use Rattle.package_objects.specs.Declares.{gather, uses_of, declared_in, declared_by, declared}
use Rattle.package_needs.specs.Keys.{up, AreMentions, IsRowBy}
use Rattle.package_needs.specs.Kin.{IsMethod, IsOwnerAt, AreMethods}
use Rattle.package_needs.specs.Worlds.{name_of, DenotesName, AreDenoted, IsFirstOf, AreEntries, IsPackage, MarkTheSame}
use Rattle.gv_base.proofs.Lists.{same_some}
use Rattle.package_needs.proofs.CarryLemmas.{leads, needs, carries}

abbrev Use : Type 0
Use = NodeRef × Object

abbrev Rows : Type 0
Rows = List (Vec (Option NodeRef))

-- ---- what a node denotes

never_before : (a b : NodeRef) → a ≡ b → IsBefore a b → ⊥
never_before a b e (inl low) = let same : a.file ≡ b.file = ap (λ (x : NodeRef). x.file) e in omega arith
never_before a b e (inr (files, low)) = let same : a.node ≡ b.node = ap (λ (x : NodeRef). x.node) e in omega arith

at_one : (uses : List Use) (ordered : AreInOrder uses) (j k : ℕ) (a b : Use) → slice_get uses j ≡ Some a → slice_get uses k ≡ Some b → a.0 ≡ b.0 → a ≡ b
at_one uses ordered j k a b a_at b_at e = elim (compare j k) [
  | inl less ↦ absurd (never_before a.0 b.0 e (ordered j k a b less a_at b_at))
  | inr (inl same) ↦ same_some (slice_get uses j) a b a_at (ap (λ n. slice_get uses n) same ∙ b_at)
  | inr (inr more) ↦ absurd (never_before b.0 a.0 (sym e) (ordered k j b a more b_at a_at))
] where
  compare : (j k : ℕ) → (j < k) ⊎ ((j ≡ k) ⊎ (k < j))
  compare j k = grind arith

reads : (uses : List Use) (x : Use) → Contains uses x → (k : ℕ) × (slice_get uses k ≡ Some x)
reads uses x (k, low, e) = (k, slice_get-get_or uses k x low ∙ ap Some e)

one_object : (uses : List Use) (ordered : AreInOrder uses) (at : NodeRef) (a b : Option Object) → Has uses at a → Has uses at b → a ≡ b
one_object uses ordered at None None one other = refl
one_object uses ordered at None (Some y) one other = absurd (one y other)
one_object uses ordered at (Some x) None one other = absurd (other x one)
one_object uses ordered at (Some x) (Some y) one other =
    let a = reads uses (at, x) one in
    let b = reads uses (at, y) other in
    ap (λ (u : Use). Some u.1) (at_one uses ordered a.0 b.0 (at, x) (at, y) a.1 b.1 refl)

one_name : (uses : List Use) (ordered : AreInOrder uses) (at : NodeRef) (a b : Option NodeRef) → DenotesName uses at a → DenotesName uses at b → a ≡ b
one_name uses ordered at a b (x, x_has, a_is) (y, y_has, b_is) = a_is ∙ (ap (λ (o : Option Object). option_and_then name_of o) (one_object uses ordered at x y x_has y_has) ∙ sym b_is)

-- ---- rows

-- lists of one length whose items are one
same_items : (xs ys : List (Option NodeRef)) → length xs ≡ length ys → ((n : ℕ) (x y : Option NodeRef) → slice_get xs n ≡ Some x → slice_get ys n ≡ Some y → x ≡ y) → xs ≡ ys
same_items [] [] size each = refl
same_items [] (y ∷ ys) size each = absurd (omega arith)
same_items (x ∷ xs) [] size each = absurd (omega arith)
same_items (x ∷ xs) (y ∷ ys) size each =
    ap (λ (z : Option NodeRef). z ∷ xs) (each 0 x y refl refl)
    ∙ ap (λ (zs : List (Option NodeRef)). y ∷ zs) (same_items xs ys (omega arith) (λ n a b at other. each (suc n) a b at other))

within : (xs : Rows) (f : ℕ) → f < length xs → (row : Vec (Option NodeRef)) × (slice_get xs f ≡ Some row)
within [] f low = absurd (omega arith)
within (x ∷ xs) zero low = (x, refl)
within (x ∷ xs) (suc f) low = within xs f (omega arith)

one_row : (uses : List Use) (trees : List FileTree) (a b : Rows) → AreInOrder uses → AreDenoted uses trees a → AreDenoted uses trees b → (f : ℕ) → uses_of a f ≡ uses_of b f
one_row uses trees a b ordered one other f = by (slice_get a f) (slice_get b f) refl refl where
  items : Option (Vec (Option NodeRef)) → List (Option NodeRef)
  items o = option_map_or (λ (row : Vec (Option NodeRef)). row.items) o []

  none : (x : Vec (Option NodeRef)) (one_of two : Rows) → length one_of ≡ length two → slice_get one_of f ≡ Some x → slice_get two f ≡ None → ⊥
  none x one_of two size is lacks = let low = slice_get_within one_of f x is in let found = within two f (omega arith) in no_row found.0 (sym lacks ∙ found.1) where
    no_row : (row : Vec (Option NodeRef)) → None ≡ Some row → ⊥
    no_row row e = cc

  by : (x y : Option (Vec (Option NodeRef))) → slice_get a f ≡ x → slice_get b f ≡ y → uses_of a f ≡ uses_of b f
  by None None p q = ap items p ∙ sym (ap items q)
  by (Some x) None p q = absurd (none x a b (one.size ∙ sym other.size) p q)
  by None (Some y) p q = absurd (none y b a (other.size ∙ sym one.size) q p)
  by (Some x) (Some y) p q =
      let s = one.each f x p in
      let t = other.each f y q in
      let tree : s.0 ≡ t.0 = same_some (slice_get trees f) s.0 t.0 s.1 t.1 in
      let nodes : length s.0.nodes ≡ length t.0.nodes = ap (λ (r : FileTree). length r.nodes) tree in
      ap items p ∙ (same_items x.items y.items (s.2.size ∙ (nodes ∙ sym t.2.size)) (λ n i j i_at j_at. one_name uses ordered (place f n) i j (s.2.each n i i_at) (t.2.each n j j_at)) ∙ sym (ap items q))

-- what the rows say of a node, by its file's row
meant_by : (rows : Rows) (at : NodeRef) → meant_in rows at ≡ option_and_then itself (slice_get (uses_of rows at.file) at.node)
meant_by rows at = by (slice_get rows at.file) where
  by : (o : Option (Vec (Option NodeRef)))
      → option_and_then (λ (row : Vec (Option NodeRef)). option_and_then itself (slice_get row.items at.node)) o ≡ option_and_then itself (slice_get (option_map_or (λ (row : Vec (Option NodeRef)). row.items) o []) at.node)
  by None = refl
  by (Some row) = refl

one_meant : (a b : Rows) → ((f : ℕ) → uses_of a f ≡ uses_of b f) → meant_in a ≡ meant_in b
one_meant a b same = fun_ext (λ at. meant_by a at ∙ (ap (λ (row : List (Option NodeRef)). option_and_then itself (slice_get row at.node)) (same at.file) ∙ sym (meant_by b at)))

one_declared : (trees : List FileTree) (a b : Rows) → ((f : ℕ) → uses_of a f ≡ uses_of b f) → declared trees a ≡ declared trees b
one_declared trees a b same = ap (λ (g : ℕ → List Entry). gather g (length trees)) (fun_ext each) where
  each : (f : ℕ) → declared_by trees a f ≡ declared_by trees b f
  each f = ap (λ (row : List (Option NodeRef)). option_map_or (λ (tree : FileTree). declared_in f tree.nodes row) (slice_get trees f) []) (same f)

-- ---- declarations

one_first : (entries : List Entry) (at : NodeRef) (a b : Entry) → IsFirstOf entries at a → IsFirstOf entries at b → a ≡ b
one_first entries at a b one other =
    let up = one.first other.number b other.here other.named in
    let down = other.first one.number a one.here one.named in
    let same : one.number ≡ other.number = omega arith in
    same_some (slice_get entries one.number) a b one.here (ap (λ n. slice_get entries n) same ∙ other.here)

one_entry : (entries : List Entry) (a b : NodeRef → Option Entry) → AreEntries entries a → AreEntries entries b → (at : NodeRef) → a at ≡ b at
one_entry entries a b one other at = by (a at) (b at) refl refl where
  lacks : (c : NodeRef → Option Entry) (e : Entry) → AreEntries entries c → IsFirstOf entries at e → c at ≡ None → ⊥
  lacks c e are is none = let d = are.has is.number e is.here in no_entry d.0 (sym none ∙ (ap c (sym is.named) ∙ d.1)) where
    no_entry : (d : Entry) → None ≡ Some d → ⊥
    no_entry d e = cc

  by : (x y : Option Entry) → a at ≡ x → b at ≡ y → a at ≡ b at
  by None None p q = p ∙ sym q
  by (Some x) None p q = absurd (lacks b x other (one.«is» at x p) q)
  by None (Some y) p q = absurd (lacks a y one (other.«is» at y q) p)
  by (Some x) (Some y) p q = p ∙ (ap Some (one_first entries at x y (one.«is» at x p) (other.«is» at y q)) ∙ sym q)

-- ---- descriptions

abbrev world_with : (NodeRef → Option Node) → (NodeRef → Option NodeRef) → (NodeRef → Option Entry) → (NodeRef → List NodeRef) → World
world_with node meant entry kin = record { node = node; meant = meant; entry = entry; kin = kin }

one_world : (w v : World) → w.node ≡ v.node → w.meant ≡ v.meant → w.entry ≡ v.entry → w.kin ≡ v.kin → w ≡ v
one_world w v node meant entry kin =
    ap (λ (f : NodeRef → Option Node). world_with f w.meant w.entry w.kin) node
    ∙ (ap (λ (f : NodeRef → Option NodeRef). world_with v.node f w.entry w.kin) meant
    ∙ (ap (λ (f : NodeRef → Option Entry). world_with v.node v.meant f w.kin) entry
    ∙ ap (λ (f : NodeRef → List NodeRef). world_with v.node v.meant v.entry f) kin))

module _ (uses : List Use) (trees : List FileTree) (elsewhere : NodeRef → Bool) (ordered : AreInOrder uses) (a b : Rows) (names other : World) (w v : World) (p : IsPackage uses trees elsewhere a names w) (q : IsPackage uses trees elsewhere b other v) where
  rows_say : (f : ℕ) → uses_of a f ≡ uses_of b f
  rows_say = one_row uses trees a b ordered p.denoted q.denoted

  pub same_declared : declared trees a ≡ declared trees b
  same_declared = one_declared trees a b rows_say

  pub same_names : names ≡ other
  same_names = one_world names other (p.nodes ∙ sym q.nodes) (p.denotes ∙ (one_meant a b rows_say ∙ sym q.denotes))
      (fun_ext (one_entry (declared trees a) names.entry other.entry p.entries (subst (λ (es : List Entry). AreEntries es other.entry) (sym same_declared) q.entries)))
      (fun_ext (λ at. p.bare at ∙ sym (q.bare at)))

  -- the second description by the rows and the names of the first
  second : IsPackage uses trees elsewhere a names v
  second = record {
    denoted = p.denoted;
    nodes = p.nodes;
    denotes = p.denotes;
    entries = p.entries;
    bare = p.bare;
    same_nodes = q.same_nodes ∙ ap (λ (x : World). x.node) (sym same_names);
    same_entries = q.same_entries ∙ ap (λ (x : World). x.entry) (sym same_names);
    mentions = subst (λ (x : World). AreMentions x elsewhere (up trees) v.meant) (sym same_names) q.mentions;
    methods = subst (λ (x : World). AreMethods x v.kin) (sym same_names) q.methods;
  }

  pub leads_on : (x y : NodeRef) → Leads (NeedsOf w) x y → Leads (NeedsOf v) x y
  leads_on x y step = leads (NeedsOf w) (NeedsOf v) (λ c d n. needs (carries uses trees elsewhere a names w v p second) n) x y step

  pub leads_back : (x y : NodeRef) → Leads (NeedsOf v) x y → Leads (NeedsOf w) x y
  leads_back x y step = leads (NeedsOf v) (NeedsOf w) (λ c d n. needs (carries uses trees elsewhere a names v w second p) n) x y step

  -- a node declares a method of one type
  pub same_owner : (at : NodeRef) (x y : Option NodeRef) → IsOwnerAt names at x → IsOwnerAt other at y → x ≡ y
  same_owner at x y one two = by x y one (subst (λ (z : World). IsOwnerAt z at y) (sym same_names) two) where
    by : (x y : Option NodeRef) → IsOwnerAt names at x → IsOwnerAt names at y → x ≡ y
    by None None one two = refl
    by (Some t) o one two = sym ((two t).1 ((one t).0 refl))
    by None (Some t) one two = (one t).1 ((two t).0 refl)

  pub marks_are_one : (one two : List Needed) → IsNeedOrder (NeedsOf w) (IsNamed (declared trees a)) one → IsNeedOrder (NeedsOf v) (IsNamed (declared trees b)) two → MarkTheSame one two
  marks_are_one one two first last j k e g e_at g_at same = (
    λ marked. (last.cyclic k g g_at).1 (subst (λ (o : NodeRef). Leads (NeedsOf v) o o) same (leads_on e.object e.object ((first.cyclic j e e_at).0 marked))),
    λ marked. (first.cyclic j e e_at).1 (subst (λ (o : NodeRef). Leads (NeedsOf w) o o) (sym same) (leads_back g.object g.object ((last.cyclic k g g_at).0 marked))),
  )

-- The groups of methods, one more at a time.
use Rattle.std.proofs.Common.{◌≡◌, ◌↔◌, ◌⊎◌, ℕ, zero, suc, ◌+◌, ◌<◌, ◌≤◌, Bool, List, [], ◌∷◌, ◌++◌, length, set, get_or, slice_get, Option, Some, None, option_and_then, refl, sym, ap, ◌∙◌, subst, inl, inr, arith, true, false, if◌then◌else◌}
use Rattle.std.specs.Option.{option_map_or}
use Rattle.std.specs.Global.{Vec}
use Rattle.std.specs.HashMap.{HashMap}
use Rattle.std.proofs.Math.ListN.{length-set}
use Rattle.std.proofs.lemmas.Bool.{cases_eq}
use Rattle.std.proofs.lemmas.List.{length-append}
use Rattle.std.proofs.lemmas.Option.{slice_get_within}
use Rattle.go_tree.specs.Spells.{Among}
use Rattle.go_tree.specs.declared.tree.FileTree.{FileTree}
use Rattle.go_tree.specs.declared.tree.Node.{Node}
use Rattle.go_tree.specs.declared.tree.NodeRef.{NodeRef}
use Rattle.go_tree.specs.declared.tree.NodeKind.TheVariants as k
use Rattle.object_order.specs.declared.spot.Entry.{Entry}
use Rattle.object_order.specs.Names.{AreNamed}
use Rattle.object_order.specs.Spots.{World, place}
use Rattle.object_order.specs.Views.{number_in, entry_in, group_in, kin_in, node_in}
use Rattle.package_needs.specs.declared.kin.Method.{Method}
use Rattle.package_needs.specs.Kin.{IsMethod, IsMethodAt, AreMethods, IsOf, is_method, is_defined}
use Rattle.package_needs.specs.Groups.{PushesAt, GroupsGain, IsThis, InNodes, InFiles}
use Rattle.gv_base.proofs.Lists.{get_set_other, get_set_same, item_is, same_some, split}

-- ---- lists

among_front : {A : Type 0} (x y : A) (xs : List A) → Among x xs → Among x (xs ++ (y ∷ []))
among_front x y [] has = absurd has
among_front x y (z ∷ xs) (inl e) = inl e
among_front x y (z ∷ xs) (inr has) = inr (among_front x y xs has)

among_last : {A : Type 0} (x y : A) (xs : List A) → y ≡ x → Among x (xs ++ (y ∷ []))
among_last x y [] e = inl e
among_last x y (z ∷ xs) e = inr (among_last x y xs e)

among_either : {A : Type 0} (x y : A) (xs : List A) → Among x (xs ++ (y ∷ [])) → Among x xs ⊎ (y ≡ x)
among_either x y [] (inl e) = inr e
among_either x y [] (inr none) = absurd none
among_either x y (z ∷ xs) (inl e) = inl (inl e)
among_either x y (z ∷ xs) (inr has) = elim (among_either x y xs has) [ inl h ↦ inl (inr h) | inr e ↦ inr e ]

abbrev items_of : Option (Vec NodeRef) → List NodeRef
items_of o = option_map_or (λ (group : Vec NodeRef). group.items) o []

pub pushes_at : (old : List (Vec NodeRef)) (n : ℕ) (m : NodeRef) (row was : Vec NodeRef) → n < length old → was ≡ get_or old n was → row.items ≡ was.items ++ (m ∷ []) → PushesAt old (set old n row) n m
pushes_at old n m row was low item now = record {
  size = length-set old n row;
  here = ap items_of (get_set_same old n row low) ∙ (now ∙ ap (λ (xs : List NodeRef). xs ++ (m ∷ [])) (sym (ap items_of (item_is old n was low item))));
  others = λ k apart. ap items_of (get_set_other old n k row apart);
}

blank_front : (rows : List (Vec NodeRef)) (row : Vec NodeRef) (k : ℕ) → row.items ≡ [] → group_in rows k ≡ [] → group_in (rows ++ (row ∷ [])) k ≡ []
blank_front [] row zero bare empty = bare
blank_front [] row (suc k) bare empty = refl
blank_front (r ∷ rows) row zero bare empty = empty
blank_front (r ∷ rows) row (suc k) bare empty = blank_front rows row k bare empty

pub blank_more : (rows new : List (Vec NodeRef)) (row : Vec NodeRef) → new ≡ rows ++ (row ∷ []) → row.items ≡ [] → ((k : ℕ) → group_in rows k ≡ []) → (k : ℕ) → group_in new k ≡ []
blank_more rows new row is bare empty k = ap (λ (xs : List (Vec NodeRef)). group_in xs k) is ∙ blank_front rows row k bare (empty k)

-- ---- one method more

cases_of : {A : Type 0} (o : Option A) → (o ≡ None) ⊎ ((x : A) × (o ≡ Some x))
cases_of None = inl refl
cases_of (Some x) = inr (x, refl)

abbrev kin_by : List (Vec NodeRef) → Option ℕ → List NodeRef
kin_by groups o = option_map_or (λ n. group_in groups n) o []

abbrev made : NodeRef → NodeRef → Method
made t m = record { of = t; name = m }

-- two names with one number are one
one_name : {S : Type 0} (entries : List Entry) (numbers : HashMap (ℕ × ℕ) ℕ S) (a b : NodeRef) (n : ℕ) → AreNamed entries numbers
    → number_in numbers (a.file, a.node) ≡ Some n → number_in numbers (b.file, b.node) ≡ Some n → a ≡ b
one_name entries numbers a b n named one two = (let (e, e_at, e_is) = named.«is» n a one in let (f, f_at, f_is) = named.«is» n b two in
    sym e_is ∙ (ap (λ (x : Entry). x.name) (same_some (slice_get entries n) e f e_at f_at) ∙ f_is))

pub method_gained : {S : Type 0} (entries : List Entry) (numbers : HashMap (ℕ × ℕ) ℕ S) (old new : List (Vec NodeRef)) (d : Method) (n : ℕ) → AreNamed entries numbers
    → number_in numbers (d.of.file, d.of.node) ≡ Some n → PushesAt old new n d.name → GroupsGain numbers old new (IsThis (Some d))
method_gained {S} entries numbers old new d n named has pushed = record {
  size = pushed.size;
  gains = λ t m. elim (cases_of (number_in numbers (t.file, t.node))) [
    | inl none ↦ (
      λ among. absurd (subst (λ o. Among m (kin_by new o)) none among),
      λ h. elim h [ inl among ↦ absurd (subst (λ o. Among m (kin_by old o)) none among) | inr this ↦ absurd (lost t m none this) ],
    )
    | inr (k, is) ↦ elim (cases_eq k n) [
      | inl same ↦ here t m k is same
      | inr apart ↦ (
        λ among. inl (subst (λ (xs : List NodeRef). Among m xs) (kept t k is apart) among),
        λ h. elim h [ inl among ↦ subst (λ (xs : List NodeRef). Among m xs) (sym (kept t k is apart)) among | inr this ↦ absurd (apart (number_same t m k is this)) ],
      )
    ]
  ];
} where
  of_is : (t m : NodeRef) → IsThis (Some d) t m → d.of ≡ t
  of_is t m this = ap (λ (x : Method). x.of) (inner this) where
    inner : Some d ≡ Some (made t m) → d ≡ made t m
    inner e = cc

  name_is : (t m : NodeRef) → IsThis (Some d) t m → d.name ≡ m
  name_is t m this = ap (λ (x : Method). x.name) (inner this) where
    inner : Some d ≡ Some (made t m) → d ≡ made t m
    inner e = cc

  number_at : (t m : NodeRef) → IsThis (Some d) t m → number_in numbers (t.file, t.node) ≡ Some n
  number_at t m this = subst (λ (x : NodeRef). number_in numbers (x.file, x.node) ≡ Some n) (of_is t m this) has

  lost : (t m : NodeRef) → number_in numbers (t.file, t.node) ≡ None → IsThis (Some d) t m → ⊥
  lost t m none this = none_some (sym none ∙ number_at t m this) where
    none_some : ◌≡◌ {A = Option ℕ} None (Some n) → ⊥
    none_some e = cc

  number_same : (t m : NodeRef) (k : ℕ) → number_in numbers (t.file, t.node) ≡ Some k → IsThis (Some d) t m → k ≡ n
  number_same t m k is this = same_some (number_in numbers (t.file, t.node)) k n is (number_at t m this)

  kept : (t : NodeRef) (k : ℕ) → number_in numbers (t.file, t.node) ≡ Some k → (k ≡ n → ⊥) → kin_in new numbers t ≡ kin_in old numbers t
  kept t k is apart = ap (λ o. kin_by new o) is ∙ (pushed.others k apart ∙ sym (ap (λ o. kin_by old o) is))

  longer : (t : NodeRef) (k : ℕ) → number_in numbers (t.file, t.node) ≡ Some k → k ≡ n → kin_in new numbers t ≡ kin_in old numbers t ++ (d.name ∷ [])
  longer t k is same = ap (λ o. kin_by new o) (is ∙ ap Some same) ∙ (pushed.here ∙ ap (λ (xs : List NodeRef). xs ++ (d.name ∷ [])) (sym (ap (λ o. kin_by old o) (is ∙ ap Some same))))

  this_is : (t m : NodeRef) → d.of ≡ t → d.name ≡ m → IsThis (Some d) t m
  this_is t m one two = ap (λ (x : NodeRef). Some (made x d.name)) one ∙ ap (λ (x : NodeRef). Some (made t x)) two

  here : (t m : NodeRef) (k : ℕ) → number_in numbers (t.file, t.node) ≡ Some k → k ≡ n → Among m (kin_in new numbers t) ↔ (Among m (kin_in old numbers t) ⊎ IsThis (Some d) t m)
  here t m k is same = (forth, back) where
    forth : Among m (kin_in new numbers t) → Among m (kin_in old numbers t) ⊎ IsThis (Some d) t m
    forth among = elim (among_either m d.name (kin_in old numbers t) (subst (λ (xs : List NodeRef). Among m xs) (longer t k is same) among)) [
      | inl h ↦ inl h
      | inr e ↦ inr (this_is t m (one_name entries numbers d.of t n named has (is ∙ ap Some same)) e)
    ]

    back : Among m (kin_in old numbers t) ⊎ IsThis (Some d) t m → Among m (kin_in new numbers t)
    back (inl h) = subst (λ (xs : List NodeRef). Among m xs) (sym (longer t k is same)) (among_front m d.name (kin_in old numbers t) h)
    back (inr this) = subst (λ (xs : List NodeRef). Among m xs) (sym (longer t k is same)) (among_last m d.name (kin_in old numbers t) (name_is t m this))

-- ---- step by step

pub gains_none : {S : Type 0} (numbers : HashMap (ℕ × ℕ) ℕ S) (old : List (Vec NodeRef)) (gained : NodeRef → NodeRef → Type 0) → ((t m : NodeRef) → gained t m → ⊥) → GroupsGain numbers old old gained
gains_none numbers old gained none = record { size = refl; gains = λ t m. (λ among. inl among, λ h. elim h [ inl among ↦ among | inr g ↦ absurd (none t m g) ]) }

pub gains_same : {S : Type 0} (numbers : HashMap (ℕ × ℕ) ℕ S) (old new : List (Vec NodeRef)) (one two : NodeRef → NodeRef → Type 0)
    → GroupsGain numbers old new one → ((t m : NodeRef) → one t m → two t m) → ((t m : NodeRef) → two t m → one t m) → GroupsGain numbers old new two
gains_same numbers old new one two g to from = record {
  size = g.size;
  gains = λ t m. (
    λ among. elim ((g.gains t m).0 among) [ inl h ↦ inl h | inr h ↦ inr (to t m h) ],
    λ h. elim h [ inl among ↦ (g.gains t m).1 (inl among) | inr g2 ↦ (g.gains t m).1 (inr (from t m g2)) ],
  );
}

pub gains_join : {S : Type 0} (numbers : HashMap (ℕ × ℕ) ℕ S) (old mid new : List (Vec NodeRef)) (one two all : NodeRef → NodeRef → Type 0)
    → GroupsGain numbers old mid one → GroupsGain numbers mid new two → ((t m : NodeRef) → one t m → all t m) → ((t m : NodeRef) → two t m → all t m)
    → ((t m : NodeRef) → all t m → one t m ⊎ two t m) → GroupsGain numbers old new all
gains_join numbers old mid new one two all g h first second split_all = record { size = h.size ∙ g.size; gains = λ t m. (forth t m, back t m) } where
  forth : (t m : NodeRef) → Among m (kin_in new numbers t) → Among m (kin_in old numbers t) ⊎ all t m
  forth t m among = elim ((h.gains t m).0 among) [
    | inl among_mid ↦ elim ((g.gains t m).0 among_mid) [ inl before ↦ inl before | inr p ↦ inr (first t m p) ]
    | inr q ↦ inr (second t m q)
  ]

  back : (t m : NodeRef) → Among m (kin_in old numbers t) ⊎ all t m → Among m (kin_in new numbers t)
  back t m (inl before) = (h.gains t m).1 (inl ((g.gains t m).1 (inl before)))
  back t m (inr p) = elim (split_all t m p) [ inl one_is ↦ (h.gains t m).1 (inl ((g.gains t m).1 (inr one_is))) | inr two_is ↦ (h.gains t m).1 (inr two_is) ]

pub node_more : {S : Type 0} (w : World) (numbers : HashMap (ℕ × ℕ) ℕ S) (file n : ℕ) (old mid new : List (Vec NodeRef)) → GroupsGain numbers old mid (InNodes w file n)
    → GroupsGain numbers mid new (IsMethod w (place file n)) → GroupsGain numbers old new (InNodes w file (n + 1))
node_more w numbers file n old mid new g h = gains_join numbers old mid new (InNodes w file n) (IsMethod w (place file n)) (InNodes w file (n + 1)) g h
    (λ t m p. (let (k, low, is) = p in (k, omega (arith, low), is))) (λ t m is. (n, omega arith, is))
    (λ t m p. (let (k, low, is) = p in elim (split k n low) [ inl before ↦ inl (k, before, is) | inr last ↦ inr (subst (λ x. IsMethod w (place file x) t m) last is) ]))

pub file_more : {S : Type 0} (w : World) (numbers : HashMap (ℕ × ℕ) ℕ S) (file : ℕ) (old mid new : List (Vec NodeRef)) → GroupsGain numbers old mid (InFiles w file)
    → GroupsGain numbers mid new (λ t m. (n : ℕ) × IsMethod w (place file n) t m) → GroupsGain numbers old new (InFiles w (file + 1))
file_more w numbers file old mid new g h = gains_join numbers old mid new (InFiles w file) (λ t m. (n : ℕ) × IsMethod w (place file n) t m) (InFiles w (file + 1)) g h
    (λ t m p. (let (at, low, is) = p in (at, omega (arith, low), is))) (λ t m p. (let (n, is) = p in (place file n, omega arith, is)))
    (λ t m p. (let (at, low, is) = p in elim (split at.file file low) [ inl before ↦ inl (at, before, is) | inr last ↦ inr (at.node, subst (λ x. IsMethod w (place x at.node) t m) last is) ]))

-- every method that a node declares is of a declared type
pub known_base : (w : World) (at : NodeRef) (o : Option Method) (d : Method) → IsMethodAt w at o → o ≡ Some d → (e : Entry) × (w.entry d.of ≡ Some e)
known_base w at o d says o_is = (let m = (says d.of d.name).0 o_is in let (e, ends, of) = m.base in from e of) where
  denoted : (u : Option NodeRef) → option_and_then (λ u. option_and_then (λ (e : Entry). if is_defined e.form then Some u else None) (w.entry u)) u ≡ Some d.of → (e : Entry) × (w.entry d.of ≡ Some e)
  denoted None is = absurd (cc)
  denoted (Some u) is = entry (w.entry u) refl is where
    entry : (e : Option Entry) → w.entry u ≡ e → option_and_then (λ (e : Entry). if is_defined e.form then Some u else None) e ≡ Some d.of → (e : Entry) × (w.entry d.of ≡ Some e)
    entry None at_u is = absurd (cc)
    entry (Some e) at_u is = own (is_defined e.form) is where
      own : (b : Bool) → (if b then Some u else None) ≡ Some d.of → (e : Entry) × (w.entry d.of ≡ Some e)
      own true is = (e, subst (λ (x : NodeRef). w.entry x ≡ Some e) (cc) at_u)
      own false is = absurd (cc)

  from : (e : NodeRef) → IsOf w e d.of → (x : Entry) × (w.entry d.of ≡ Some x)
  from e (inl (not, b)) = denoted (w.meant e) b.denotes
  from e (inr (f, points, b)) = denoted (w.meant f) b.denotes

-- a declared name has a number
pub no_number : {S : Type 0} (entries : List Entry) (numbers : HashMap (ℕ × ℕ) ℕ S) (at : NodeRef) (e : Entry) → entry_in entries numbers at ≡ Some e → number_in numbers (at.file, at.node) ≡ None → ⊥
no_number entries numbers at e is none = none_some (sym (ap (λ o. option_and_then (λ n. slice_get entries n) o) none) ∙ is) where
  none_some : ◌≡◌ {A = Option Entry} None (Some e) → ⊥
  none_some h = cc

pub number_low : {S : Type 0} (entries : List Entry) (numbers : HashMap (ℕ × ℕ) ℕ S) (at : NodeRef) (n : ℕ) → AreNamed entries numbers → number_in numbers (at.file, at.node) ≡ Some n → n < length entries
number_low entries numbers at n named is = (let (e, e_at, same) = named.«is» n at is in slice_get_within entries n e e_at)

-- a node declares a method where it is a node
pub method_node : (trees : List FileTree) (w : World) (at t m : NodeRef) → w.node at ≡ node_in trees at → IsMethod w at t m → (tree : FileTree) × (slice_get trees at.file ≡ Some tree) × (at.node < length tree.nodes)
method_node trees w at t m is d = from (slice_get trees at.file) refl where
  no_node : w.node at ≡ None → ⊥
  no_node none = absurd (both (sym (ap (λ o. is_method (option_map_or (λ (node : Node). node.kind) o k.Package)) none) ∙ d.«is»)) where
    both : ◌≡◌ {A = Bool} false true → ⊥
    both e = cc

  from : (o : Option FileTree) → slice_get trees at.file ≡ o → (tree : FileTree) × (slice_get trees at.file ≡ Some tree) × (at.node < length tree.nodes)
  from None none = absurd (no_node (is ∙ ap (λ o. option_and_then (λ (tree : FileTree). slice_get tree.nodes at.node) o) none))
  from (Some tree) there = (tree, there, below (slice_get tree.nodes at.node) refl) where
    below : (o : Option Node) → slice_get tree.nodes at.node ≡ o → at.node < length tree.nodes
    below None none = absurd (no_node (is ∙ (ap (λ o. option_and_then (λ (tree : FileTree). slice_get tree.nodes at.node) o) there ∙ none)))
    below (Some node) some = slice_get_within tree.nodes at.node node some

-- the nodes of a file are all that declare methods there
pub file_is : {S : Type 0} (trees : List FileTree) (w : World) (numbers : HashMap (ℕ × ℕ) ℕ S) (file end : ℕ) (old new : List (Vec NodeRef)) → ((at : NodeRef) → w.node at ≡ node_in trees at)
    → end ≡ option_map_or (λ (tree : FileTree). length tree.nodes) (slice_get trees file) 0 → GroupsGain numbers old new (InNodes w file end)
    → GroupsGain numbers old new (λ t m. (n : ℕ) × IsMethod w (place file n) t m)
file_is trees w numbers file end old new is size g = gains_same numbers old new (InNodes w file end) (λ t m. (n : ℕ) × IsMethod w (place file n) t m) g
    (λ t m p. (let (n, low, d) = p in (n, d)))
    (λ t m p. (let (n, d) = p in let (tree, there, low) = method_node trees w (place file n) t m (is (place file n)) d in
    (n, (let e : end ≡ length tree.nodes = size ∙ ap (λ o. option_map_or (λ (x : FileTree). length x.nodes) o 0) there in omega (arith, low, e)), d)))

-- all files
pub all_methods : {S : Type 0} (trees : List FileTree) (w : World) (numbers : HashMap (ℕ × ℕ) ℕ S) (end : ℕ) (old new : List (Vec NodeRef)) → ((at : NodeRef) → w.node at ≡ node_in trees at)
    → length trees ≤ end → ((k : ℕ) → group_in old k ≡ []) → GroupsGain numbers old new (InFiles w end) → AreMethods w (kin_in new numbers)
all_methods trees w numbers end old new is size empty g t m = (
  λ among. elim ((g.gains t m).0 among) [ inl before ↦ absurd (none before) | inr p ↦ (let (at, low, d) = p in (at, d)) ],
  λ p. (let (at, d) = p in let (tree, there, low) = method_node trees w at t m (is at) d in (g.gains t m).1 (inr (at, (let h = slice_get_within trees at.file tree there in omega (arith, h, size)), d))),
) where
  none : Among m (kin_in old numbers t) → ⊥
  none among = from (number_in numbers (t.file, t.node)) among where
    from : (o : Option ℕ) → Among m (kin_by old o) → ⊥
    from None h = h
    from (Some k) h = subst (λ (xs : List NodeRef). Among m xs) (empty k) h

pub nodes_none : {S : Type 0} (w : World) (numbers : HashMap (ℕ × ℕ) ℕ S) (file : ℕ) (old : List (Vec NodeRef)) → GroupsGain numbers old old (InNodes w file 0)
nodes_none w numbers file old = gains_none numbers old (InNodes w file 0) (λ t m p. (let (n, low, d) = p in absurd (omega (arith, low))))

pub nodes_all : {S : Type 0} (w : World) (numbers : HashMap (ℕ × ℕ) ℕ S) (file n end : ℕ) (old new : List (Vec NodeRef)) → n ≡ end → GroupsGain numbers old new (InNodes w file n) → GroupsGain numbers old new (InNodes w file end)
nodes_all w numbers file n end old new same g = subst (λ x. GroupsGain numbers old new (InNodes w file x)) same g

pub files_none : {S : Type 0} (w : World) (numbers : HashMap (ℕ × ℕ) ℕ S) (old : List (Vec NodeRef)) → GroupsGain numbers old old (InFiles w 0)
files_none w numbers old = gains_none numbers old (InFiles w 0) (λ t m p. (let (at, low, d) = p in absurd (omega (arith, low))))

pub at_some : {S : Type 0} (w : World) (at : NodeRef) (o : Option Method) (d : Method) (numbers : HashMap (ℕ × ℕ) ℕ S) (old new : List (Vec NodeRef)) → IsMethodAt w at o → o ≡ Some d
    → GroupsGain numbers old new (IsThis (Some d)) → GroupsGain numbers old new (IsMethod w at)
at_some w at o d numbers old new says o_is g = gains_same numbers old new (IsThis (Some d)) (IsMethod w at) g (λ t m this. (says t m).0 (o_is ∙ this)) (λ t m is. sym o_is ∙ (says t m).1 is)

pub at_none : {S : Type 0} (w : World) (at : NodeRef) (o : Option Method) (numbers : HashMap (ℕ × ℕ) ℕ S) (old : List (Vec NodeRef)) → IsMethodAt w at o → o ≡ None → GroupsGain numbers old old (IsMethod w at)
at_none w at o numbers old says o_is = gains_none numbers old (IsMethod w at) (λ t m is. apart t m (sym o_is ∙ (says t m).1 is)) where
  apart : (t m : NodeRef) → None ≡ Some (made t m) → ⊥
  apart t m e = cc

pub blank_size : (rows new : List (Vec NodeRef)) (row : Vec NodeRef) (n : ℕ) → new ≡ rows ++ (row ∷ []) → length rows ≡ n → length new ≡ n + 1
blank_size rows new row n is size = let e = ap (λ (xs : List (Vec NodeRef)). length xs) is in let f = length-append rows (row ∷ []) in omega (arith, e, f, size)

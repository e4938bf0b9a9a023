-- What a place says of a node: that it is a part of what it stands in, or of a list that is one.
use Rattle.std.proofs.Common.{◌≡◌, ℕ, zero, suc, ◌<◌, ◌⊎◌, ◌==◌, if◌then◌else◌, Bool, true, false, List, [], ◌∷◌, ◌++◌, length, slice_get, Option, Some, None, refl, sym, ap, ◌∙◌, subst, inl, inr, arith}
use Rattle.std.specs.List.{Contains}
use Rattle.std.specs.Option.{option_map_or}
use Rattle.std.proofs.lemmas.Bool.{eqb-true}
use Rattle.std.proofs.lemmas.Option.{slice_get_within, get_or_from_slice_get}
use Rattle.gv_base.proofs.Lists.{same_some, some_once, nothing_there}
use Rattle.go_tree.specs.declared.tree.Node.{Node}
use Rattle.go_tree.specs.declared.tree.NodeKind.{NodeKind}
use Rattle.go_tree.specs.declared.tree.NodeKind.TheVariants as k
use Rattle.go_tree.specs.Kinds.{is_function}
use Rattle.go_tree.proofs.NodeLemmas.{differ}
use Rattle.node_values.specs.Trees.{IsTree, IsPart, IsOfKind, Holds}
use Rattle.node_values.proofs.InnerLemmas.{holds_by}
use Rattle.package_objects.specs.Declares.{gather, is_list, listed, items_at, items, part}
use Rattle.unit_read.specs.declared.place.Place.{Place}
use Rattle.unit_read.specs.declared.place.Standing.{Standing}
use Rattle.unit_read.specs.Places.{stands, standing, nth_item, part_items, nth_part, standing_in, standing_at, all_standing, first_for, place_of}
use Rattle.body_facts.specs.NameTables.{is_declaring}

-- n is a part of d, or of a list that is a part of d
abbrev pub StandsIn : List Node → ℕ → ℕ → Type 0
StandsIn nodes d n = IsPart nodes d n ⊎ ((l : ℕ) × IsOfKind is_list nodes l × IsPart nodes d l × IsPart nodes l n)

-- ---- what is gathered comes of some number

append_cases : {X : Type 0} (xs ys : List X) (o : ℕ) (d : X) → slice_get (xs ++ ys) o ≡ Some d → ((i : ℕ) × (slice_get xs i ≡ Some d)) ⊎ ((j : ℕ) × (slice_get ys j ≡ Some d))
append_cases [] ys o d h = inr (o, h)
append_cases (x ∷ xs) ys zero d h = inl (0, h)
append_cases (x ∷ xs) ys (suc o) d h = elim (append_cases xs ys o d h) [
  | inl (i, e) ↦ inl (suc i, e)
  | inr later ↦ inr later
]

gather_cases : {X : Type 0} (g : ℕ → List X) (n o : ℕ) (d : X) → slice_get (gather g n) o ≡ Some d → (i : ℕ) × (j : ℕ) × (slice_get (g i) j ≡ Some d)
gather_cases g zero o d h = absurd cc
gather_cases g (suc n) o d h = elim (append_cases (gather g n) (g n) o d h) [
  | inl (i, e) ↦ gather_cases g n i d e
  | inr (j, e) ↦ (n, j, e)
]

contains_at : {X : Type 0} (xs : List X) (i : ℕ) (x : X) → slice_get xs i ≡ Some x → Contains xs x
contains_at xs i x h = (i, slice_get_within xs i x h, get_or_from_slice_get xs i x x h)

-- ---- the first of what stands there

record IsFirst (n : ℕ) (list : List Standing) (p : Place) : Type 0 where
  o : ℕ
  s : Standing
  there : slice_get list o ≡ Some s
  node : s.node ≡ n
  place : s.place ≡ p

at_head : (n : ℕ) (s : Standing) (list : List Standing) (p : Place) (b : Bool) → (s.node == n) ≡ b → (if b then Some s.place else first_for n list) ≡ Some p
    → (first_for n list ≡ Some p → IsFirst n list p) → IsFirst n (s ∷ list) p
at_head n s list p true same e later = record { o = 0; s = s; there = refl; node = eqb-true s.node n same; place = some_once e }
at_head n s list p false other e later = let r = later e in record { o = suc r.o; s = r.s; there = r.there; node = r.node; place = r.place }

first_found : (n : ℕ) (list : List Standing) (p : Place) → first_for n list ≡ Some p → IsFirst n list p
first_found n [] p e = absurd (nothing_there p e)
first_found n (s ∷ list) p e = at_head n s list p (s.node == n) refl e (first_found n list p)

-- ---- an item of a part

-- it is the part itself, or one of a list
listed_part : (nodes : List Node) (l m index : ℕ) → slice_get (items_at nodes l) index ≡ Some m → (m ≡ l) ⊎ (IsOfKind is_list nodes l × IsPart nodes l m)
listed_part nodes l m index e = by (slice_get nodes l) refl e where
  by_kind : (node : Node) → slice_get nodes l ≡ Some node → (b : Bool) → is_list node.kind ≡ b → (j : ℕ) → slice_get (if b then node.parts else l ∷ []) j ≡ Some m
      → (m ≡ l) ⊎ (IsOfKind is_list nodes l × IsPart nodes l m)
  by_kind node there true kind j e = inr ((node, there, kind), (node, there, contains_at node.parts j m e))
  by_kind node there false kind zero e = inl (sym (some_once e))
  by_kind node there false kind (suc j) e = absurd cc

  by : (o : Option Node) → slice_get nodes l ≡ o → slice_get (option_map_or (listed l) o []) index ≡ Some m → (m ≡ l) ⊎ (IsOfKind is_list nodes l × IsPart nodes l m)
  by None there e = absurd cc
  by (Some node) there e = by_kind node there (is_list node.kind) refl index e

in_item : (i slot index : ℕ) (o : Option ℕ) (s : Standing) (j : ℕ) → slice_get (standing i slot index o) j ≡ Some s → (o ≡ Some s.node) × (s.place.around ≡ i)
in_item i slot index None s j e = absurd cc
in_item i slot index (Some m) s zero e = let same : stands i slot index m ≡ s = some_once e in (ap (λ (x : Standing). Some x.node) same, ap (λ (x : Standing). x.place.around) (sym same))
in_item i slot index (Some m) s (suc j) e = absurd cc

in_part : (nodes : List Node) (i slot : ℕ) (node : Node) (s : Standing) (j : ℕ) → slice_get nodes i ≡ Some node → slice_get (nth_part nodes i node slot) j ≡ Some s → StandsIn nodes s.place.around s.node
in_part nodes i slot node s j there e = by (slice_get node.parts slot) refl from_item.0 where
  index : ℕ
  index = (gather_cases (nth_item nodes i slot (part node slot)) (length (items nodes (part node slot))) j s e).0

  from_item : (slice_get (items nodes (part node slot)) index ≡ Some s.node) × (s.place.around ≡ i)
  from_item =
      let r = gather_cases (nth_item nodes i slot (part node slot)) (length (items nodes (part node slot))) j s e in
      in_item i slot r.0 (slice_get (items nodes (part node slot)) r.0) s r.1 r.2

  of_part : (l : ℕ) → slice_get node.parts slot ≡ Some l → IsPart nodes i l
  of_part l has = (node, there, contains_at node.parts slot l has)

  by : (o : Option ℕ) → slice_get node.parts slot ≡ o → slice_get (option_map_or (items_at nodes) o []) index ≡ Some s.node → StandsIn nodes s.place.around s.node
  by None has e = absurd cc
  by (Some l) has e = subst (λ (d : ℕ). StandsIn nodes d s.node) (sym from_item.1) (elim (listed_part nodes l s.node index e) [
    | inl same ↦ inl (subst (λ (m : ℕ). IsPart nodes i m) (sym same) (of_part l has))
    | inr (kind, is) ↦ inr (l, kind, of_part l has, is)
  ])

in_node : (nodes : List Node) (i : ℕ) (s : Standing) (j : ℕ) → slice_get (standing_at nodes i) j ≡ Some s → StandsIn nodes s.place.around s.node
in_node nodes i s j e = by (slice_get nodes i) refl e where
  by_kind : (node : Node) → slice_get nodes i ≡ Some node → (b : Bool) → slice_get (if b then [] else gather (nth_part nodes i node) (length node.parts)) j ≡ Some s → StandsIn nodes s.place.around s.node
  by_kind node there true e = absurd cc
  by_kind node there false e = let r = gather_cases (nth_part nodes i node) (length node.parts) j s e in in_part nodes i r.0 node s r.1 there r.2

  by : (o : Option Node) → slice_get nodes i ≡ o → slice_get (option_map_or (standing_in nodes i) o []) j ≡ Some s → StandsIn nodes s.place.around s.node
  by None there e = absurd cc
  by (Some node) there e = by_kind node there (is_list node.kind) e

pub stands_in : (nodes : List Node) (n : ℕ) (p : Place) → place_of nodes n ≡ Some p → StandsIn nodes p.around n
stands_in nodes n p e =
    let f = first_found n (all_standing nodes) p e in
    let r = gather_cases (standing_at nodes) (length nodes) f.o f.s f.there in
    subst (λ (d : ℕ). StandsIn nodes d n) (ap (λ (x : Place). x.around) f.place) (subst (λ (m : ℕ). StandsIn nodes f.s.place.around m) f.node (in_node nodes r.0 f.s r.1 r.2))

-- ---- a function that holds what another node declares holds that node

pub other_kinds : (one two : NodeKind → Bool) → ((kind : NodeKind) → one kind ≡ true → two kind ≡ false) → (nodes : List Node) (f : ℕ) → IsOfKind one nodes f → IsOfKind two nodes f → ⊥
other_kinds one two apart nodes f a b =
    let same : a.0 ≡ b.0 = same_some (slice_get nodes f) a.0 b.0 a.1 b.1 in
    differ (two a.0.kind) (apart a.0.kind a.2) (ap (λ (x : Node). two x.kind) same ∙ b.2)

pub declares_nothing : (kind : NodeKind) → is_function kind ≡ true → is_declaring kind ≡ false
declares_nothing k.FuncDecl e = refl
declares_nothing k.MethodDecl e = refl
declares_nothing k.FuncLit e = refl
declares_nothing _ e = absurd (differ false refl e)

lists_nothing : (kind : NodeKind) → is_function kind ≡ true → is_list kind ≡ false
lists_nothing k.FuncDecl e = refl
lists_nothing k.MethodDecl e = refl
lists_nothing k.FuncLit e = refl
lists_nothing _ e = absurd (differ false refl e)

pub function_round : (nodes : List Node) (d n f : ℕ) → IsTree nodes → StandsIn nodes d n → IsOfKind is_declaring nodes d → IsOfKind is_function nodes f → Holds nodes f n → Holds nodes f d
function_round nodes d n f tree stands declares function holds = by stands where
  round : (m : ℕ) → IsPart nodes d m → Holds nodes f m → Holds nodes f d
  round m is held = elim (holds_by nodes tree f d m is held) [
    | inl same ↦ absurd (other_kinds is_function is_declaring declares_nothing nodes f function (subst (λ (x : ℕ). IsOfKind is_declaring nodes x) (sym same) declares))
    | inr more ↦ more
  ]

  by : StandsIn nodes d n → Holds nodes f d
  by (inl is) = round n is holds
  by (inr (l, list, of_d, of_l)) = elim (holds_by nodes tree f l n of_l holds) [
    | inl same ↦ absurd (other_kinds is_function is_list lists_nothing nodes f function (subst (λ (x : ℕ). IsOfKind is_list nodes x) (sym same) list))
    | inr held ↦ round l of_d held
  ]

-- What a `break` leaves.
use Rattle.std.proofs.Common.{◌≡◌, ℕ, ◌<◌, ◌&&◌, Bool, true, false, cond, List, [], ◌∷◌, length, get_or, slice_get, Option, Some, None, eqb→eq, eq-eqb, T, refl, sym, ap, ◌∙◌, subst, inl, inr, arith}
use Rattle.std.specs.List.{Contains}
use Rattle.std.specs.Option.{option_map_or}
use Rattle.std.specs.Prelude.{option_and_then}
use Rattle.std.proofs.lemmas.Option.{slice_get_within}
use Rattle.go_tree.specs.declared.tree.Node.{Node}
use Rattle.go_tree.specs.declared.tree.NodeKind.{NodeKind}
use Rattle.go_tree.specs.declared.tree.NodeKind.TheVariants as k
use Rattle.go_tree.proofs.NodeLemmas.{differ}
use Rattle.node_values.specs.Trees.{Holds, IsTree, IsPart, IsOfKind, InnermostOf, AreInnermost}
use Rattle.node_values.specs.Parents.{at, IsParent, AreParents}
use Rattle.node_values.specs.Ranges.{starts, IsTiled, IsWithin}
use Rattle.node_values.proofs.CaseLemmas.{same_some}
use Rattle.node_values.proofs.InnerLemmas.{one_innermost}
use Rattle.node_values.proofs.RangeLemmas.{held_within}
use Rattle.node_values.proofs.HandLemmas.{below_or_not, get_past}
use Rattle.body_rules.specs.declared.branches.Branch.{Branch}
use Rattle.body_rules.specs.declared.branches.Branch.TheVariants as w
use Rattle.body_rules.specs.Kinds.{is_label}
use Rattle.body_rules.specs.Endings.{kind_of}
use Rattle.body_rules.specs.Branches.{can_leave, stops, IsLabelOn, LeavesNearest, LeavesNamed, is_first, labelled, stand_of}
use Rattle.node_values.specs.Flagged.{IsOnly}
use Rattle.body_rules.specs.Jumping.{LeavesRound}
use Rattle.body_rules.proofs.JumpLemmas.{from_table, kind_at, there_is}

leaves_kind : (which : Branch) (nodes : List Node) (t : ℕ) → t < length nodes → can_leave which (kind_of nodes t) ≡ true → IsOfKind (can_leave which) nodes t
leaves_kind which nodes t low is = let (node, there) = there_is nodes t low in (node, there, sym (ap (can_leave which) (kind_at nodes t node there)) ∙ is)

kind_leaves : (which : Branch) (nodes : List Node) (t : ℕ) → IsOfKind (can_leave which) nodes t → can_leave which (kind_of nodes t) ≡ true
kind_leaves which nodes t (node, there, is) = ap (can_leave which) (kind_at nodes t node there) ∙ is

kind_low : (kinds : NodeKind → Bool) (nodes : List Node) (t : ℕ) → IsOfKind kinds nodes t → t < length nodes
kind_low kinds nodes t (node, there, is) = slice_get_within nodes t node there

pub nearest_some : (which : Branch) (nodes : List Node) (nearest : List (Option ℕ)) (n t : ℕ) → IsTree nodes → n < length nodes → AreInnermost (stops which) nodes nearest → get_or nearest n None ≡ Some t
    → IsOnly (LeavesNearest which nodes n) (cond (can_leave which (kind_of nodes t)) (Some t) None)
nearest_some which nodes nearest n t tree low are found = by (can_leave which (kind_of nodes t)) refl where
  inner : InnermostOf (stops which) nodes n t
  inner = from_table (stops which) nodes nearest n t are low found

  by : (b : Bool) → can_leave which (kind_of nodes t) ≡ b → IsOnly (LeavesNearest which nodes n) (cond b (Some t) None)
  by true e = (
    record { nearest = inner; kind = leaves_kind which nodes t (kind_low (stops which) nodes t inner.kind) e },
    λ u leaves. one_innermost (stops which) nodes tree n u t leaves.nearest inner,
  )
  by false e = λ u leaves.
      differ (can_leave which (kind_of nodes t)) e (kind_leaves which nodes t (subst (λ x. IsOfKind (can_leave which) nodes x) (one_innermost (stops which) nodes tree n u t leaves.nearest inner) leaves.kind))

-- a name is nothing to leave
name_stays : (which : Branch) → can_leave which k.Name ≡ false
name_stays w.Break = refl
name_stays w.Continue = refl

leaves_low : (which : Branch) (nodes : List Node) (t : ℕ) → can_leave which (kind_of nodes t) ≡ true → t < length nodes
leaves_low which nodes t e = elim (below_or_not t (length nodes)) [
  | inl low ↦ low
  | inr past ↦ absurd (differ (can_leave which (kind_of nodes t)) (ap (can_leave which) (ap (λ o. option_map_or (λ (x : Node). x.kind) o k.Name) (get_past nodes t past)) ∙ name_stays which) e)
]

pub round_some : (which : Branch) (nodes : List Node) (t n : ℕ) → IsTree nodes → IsTiled nodes → IsWithin (starts nodes) t n
    → IsOnly (LeavesRound which nodes t n) (cond (can_leave which (kind_of nodes t)) (Some t) None)
round_some which nodes t n tree tiled within = by (can_leave which (kind_of nodes t)) refl where
  by : (b : Bool) → can_leave which (kind_of nodes t) ≡ b → IsOnly (LeavesRound which nodes t n) (cond b (Some t) None)
  by true e = (
    record { same = refl; kind = leaves_kind which nodes t (leaves_low which nodes t e) e; holds = (held_within nodes tree tiled t n (leaves_low which nodes t e)).1 within },
    λ u leaves. leaves.same,
  )
  by false e = λ u leaves. differ (can_leave which (kind_of nodes t)) e (kind_leaves which nodes t leaves.kind)

pub round_none : (which : Branch) (nodes : List Node) (t n : ℕ) → IsTree nodes → IsTiled nodes → (IsWithin (starts nodes) t n → ⊥) → IsOnly (LeavesRound which nodes t n) None
round_none which nodes t n tree tiled out = λ u leaves. out ((held_within nodes tree tiled t n (kind_low (can_leave which) nodes t leaves.kind)).0 leaves.holds)

-- ---- labels

first_has : (parts : List ℕ) (l : ℕ) → slice_get parts 0 ≡ Some l → is_first parts l ≡ true
first_has [] l e = absurd cc
first_has (x ∷ xs) l e = eq-eqb x l (let f : Some x ≡ Some l = e in cc)

has_first : (parts : List ℕ) (l : ℕ) → is_first parts l ≡ true → slice_get parts 0 ≡ Some l
has_first [] l e = absurd cc
has_first (x ∷ xs) l e = ap Some (eqb→eq x l (subst (λ (b : Bool). T b) (sym e) tt))

first_part : (parts : List ℕ) (l : ℕ) → slice_get parts 0 ≡ Some l → Contains parts l
first_part [] l e = absurd cc
first_part (x ∷ xs) l e = (0, omega arith, (let f : Some x ≡ Some l = e in cc))

-- what a node says as a label
told_some : (l t : ℕ) (node : Node) → labelled l node ≡ Some t → (is_label node.kind ≡ true) × (slice_get node.parts 0 ≡ Some l) × (slice_get node.parts 1 ≡ Some t)
told_some l t node e = by (is_label node.kind) (is_first node.parts l) refl refl e where
  by : (a b : Bool) → is_label node.kind ≡ a → is_first node.parts l ≡ b → cond (a && b) (slice_get node.parts 1) None ≡ Some t
      → (is_label node.kind ≡ true) × (slice_get node.parts 0 ≡ Some l) × (slice_get node.parts 1 ≡ Some t)
  by true true x y z = (x, has_first node.parts l y, z)
  by true false x y z = absurd cc
  by false b x y z = absurd cc

some_told : (l t : ℕ) (node : Node) → is_label node.kind ≡ true → slice_get node.parts 0 ≡ Some l → slice_get node.parts 1 ≡ Some t → labelled l node ≡ Some t
some_told l t node kind one two = ap (λ b. cond (b && is_first node.parts l) (slice_get node.parts 1) None) kind
    ∙ (ap (λ b. cond b (slice_get node.parts 1) None) (first_has node.parts l one) ∙ two)

stand_some : (nodes : List Node) (q l t : ℕ) (o : Option Node) → slice_get nodes q ≡ o → option_and_then (labelled l) o ≡ Some t → IsLabelOn nodes l t
stand_some nodes q l t None there e = absurd cc
stand_some nodes q l t (Some node) there e = let told = told_some l t node e in (q, node, there, told.0, told.1, told.2)

-- the node that has the label's name is its parent
label_parent : (nodes : List Node) (parents : List ℕ) (l t : ℕ) → IsTree nodes → AreParents nodes (length nodes) parents → IsLabelOn nodes l t → stand_of nodes (at parents l) l ≡ Some t
label_parent nodes parents l t tree parts (q, node, there, kind, one, two) =
    ap (λ x. stand_of nodes x l) (by (parts.each l low)) ∙ (ap (λ o. option_and_then (labelled l) o) there ∙ some_told l t node kind one two) where
      has : IsPart nodes q l
      has = (node, there, first_part node.parts l one)

      low : l < length nodes
      low = let a = tree.after q l has in let b = slice_get_within nodes q node there in omega arith

      by : IsParent nodes (length nodes) l (at parents l) → at parents l ≡ q
      by (inl own) = tree.one (at parents l) q l own has
      by (inr none) = absurd (none.1 q (slice_get_within nodes q node there) has)

pub stand_only : (nodes : List Node) (parents : List ℕ) (l : ℕ) → IsTree nodes → AreParents nodes (length nodes) parents → IsOnly (IsLabelOn nodes l) (stand_of nodes (at parents l) l)
stand_only nodes parents l tree parts = by (stand_of nodes (at parents l) l) refl where
  by : (o : Option ℕ) → stand_of nodes (at parents l) l ≡ o → IsOnly (IsLabelOn nodes l) o
  by None e = λ u on. (let f : None ≡ Some u = sym e ∙ label_parent nodes parents l u tree parts on in cc)
  by (Some t) e = (
    stand_some nodes (at parents l) l t (slice_get nodes (at parents l)) refl e,
    λ u on. same_some (stand_of nodes (at parents l) l) u t (label_parent nodes parents l u tree parts on) e,
  )

-- a statement with this label
pub label_some : (which : Branch) (nodes : List Node) (l t n : ℕ) (o : Option ℕ) → IsLabelOn nodes l t → ((u : ℕ) → IsLabelOn nodes l u → u ≡ t) → IsOnly (LeavesRound which nodes t n) o
    → IsOnly (LeavesNamed which nodes (Some l) n) o
label_some which nodes l t n None on only none = λ u leaves.
    none t (record { same = refl; kind = subst (λ x. IsOfKind (can_leave which) nodes x) (is u leaves) leaves.kind; holds = subst (λ x. Holds nodes x n) (is u leaves) leaves.holds }) where
      is : (u : ℕ) → LeavesNamed which nodes (Some l) n u → u ≡ t
      is u leaves = only u (subst (λ x. IsLabelOn nodes x u) (let f : Some l ≡ Some leaves.l = leaves.denoted in let g : leaves.l ≡ l = cc in g) leaves.on)
label_some which nodes l t n (Some v) on only (leaves, one) = (
  record { l = l; denoted = refl; on = subst (λ x. IsLabelOn nodes l x) (sym leaves.same) on; kind = subst (λ x. IsOfKind (can_leave which) nodes x) (sym leaves.same) leaves.kind; holds = subst (λ x. Holds nodes x n) (sym leaves.same) leaves.holds },
  λ u other. only u (subst (λ x. IsLabelOn nodes x u) (let f : Some l ≡ Some other.l = other.denoted in let g : other.l ≡ l = cc in g) other.on) ∙ sym leaves.same,
)

pub label_none : (which : Branch) (nodes : List Node) (l n : ℕ) → ((u : ℕ) → IsLabelOn nodes l u → ⊥) → IsOnly (LeavesNamed which nodes (Some l) n) None
label_none which nodes l n none = λ u leaves. none u (subst (λ x. IsLabelOn nodes x u) (let f : Some l ≡ Some leaves.l = leaves.denoted in let g : leaves.l ≡ l = cc in g) leaves.on)

pub split_some : (P : ℕ → Type 0) (o : Option ℕ) (t : ℕ) → o ≡ Some t → IsOnly P o → IsOnly P (Some t)
split_some P o t e only = subst (λ x. IsOnly P x) e only

pub split_none : (P : ℕ → Type 0) (o : Option ℕ) → o ≡ None → IsOnly P o → IsOnly P None
split_none P o e only = subst (λ x. IsOnly P x) e only

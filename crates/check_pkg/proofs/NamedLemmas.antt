-- Flags of parts of what may have names.
use Rattle.std.proofs.Common.{◌≡◌, ℕ, ◌<◌, ◌≤◌, ◌+◌, ◌⊎◌, ◌↔◌, Bool, true, false, List, [], ◌∷◌, ◌++◌, length, get_or, slice_get, slice_index_or, Option, Some, None, refl, sym, ap, ◌∙◌, subst, inl, inr, arith}
use Rattle.std.specs.Global.{Vec}
use Rattle.std.specs.List.{Contains}
use Rattle.std.specs.Option.{option_map_or}
use Rattle.std.proofs.lemmas.Bool.{cases_lt}
use Rattle.std.proofs.lemmas.List.{length_push}
use Rattle.std.proofs.lemmas.List.Elements.{Contains-get_or}
use Rattle.std.proofs.lemmas.Option.{slice_get_within}
use Rattle.go_tree.proofs.NodeLemmas.{differ}
use Rattle.go_tree.specs.declared.tree.FileTree.{FileTree}
use Rattle.go_tree.specs.declared.tree.Node.{Node}
use Rattle.go_tree.specs.declared.tree.NodeRef.{NodeRef}
use Rattle.node_values.specs.Parents.{at, IsParent, AreParents}
use Rattle.node_values.specs.Trees.{IsTree, IsPart, Holds, part as by_part, deep}
use Rattle.object_order.specs.Spots.{place}
use Rattle.typed_marks.specs.declared.item.Item.{Item}
use Rattle.typed_marks.specs.Meanings.{Meaning}
use Rattle.unit_read.specs.Units.{Unit}
use Rattle.unit_read.proofs.EnvironmentLemmas.{same_some, push_cases}
use Rattle.check_pkg.specs.Elsewhere.{IsFlagRow}
use Rattle.check_pkg.specs.Leading.{has_names_at, FlagsNamed, AreNamedRows, leads_on, IsIn, LeadsIn, is_vars}
use Rattle.check_pkg.proofs.LeadingLemmas.{holds_in}
use Rattle.check_pkg.proofs.Lists.{stands_in}

-- what a node is a part of is told
parent_told : (nodes : List Node) (parents : List ℕ) (p n : ℕ) → IsTree nodes → AreParents nodes (length nodes) parents → n < length nodes → IsPart nodes p n → at parents n ≡ p
parent_told nodes parents p n tree are low has = by (are.each n low) where
  by : IsParent nodes (length nodes) n (at parents n) → at parents n ≡ p
  by (inl other) = tree.one (at parents n) p n other has
  by (inr none) = absurd (none.1 p (slice_get_within nodes p has.0 has.1) has)

pub row_named : (nodes : List Node) (parents : List ℕ) (row : List Bool) → IsTree nodes → AreParents nodes (length nodes) parents → IsFlagRow (λ n. has_names_at nodes (at parents n)) row (length nodes) → FlagsNamed nodes row
row_named nodes parents row tree are is n (p, has, names) =
    let low : n < length nodes = (let after = tree.after p n has in let end = slice_get_within nodes p has.0 has.1 in omega arith) in
    is.each n low ∙ (ap (has_names_at nodes) (parent_told nodes parents p n tree are low has) ∙ names)

pub named_none : (trees : List FileTree) (rows : List (Vec Bool)) → rows ≡ [] → AreNamedRows trees 0 rows
named_none trees rows bare = subst (λ (x : List (Vec Bool)). AreNamedRows trees 0 x) (sym bare) (record { size = refl; each = λ f tree row there row_at. absurd cc })

pub named_more : (trees : List FileTree) (rows new : List (Vec Bool)) (k : ℕ) (tree : FileTree) (row : Vec Bool) → AreNamedRows trees k rows → slice_get trees k ≡ Some tree → FlagsNamed tree.nodes row.items
    → new ≡ rows ++ (row ∷ []) → AreNamedRows trees (k + 1) new
named_more trees rows new k tree row was there flags now = record {
  size = ap length now ∙ (length_push rows row ∙ ap (λ n. n + 1) was.size);
  each = λ f t r t_at r_at. elim (push_cases rows row r f (ap (λ (xs : List (Vec Bool)). slice_get xs f) (sym now) ∙ r_at)) [
    | inl before ↦ was.each f t r t_at before
    | inr (f_is, r_is) ↦
        let here : k ≡ f = sym (f_is ∙ was.size) in
        let one : tree ≡ t = same_some (slice_get trees k) tree t there (ap (slice_get trees) here ∙ t_at) in
        subst (λ (x : FileTree). FlagsNamed x.nodes r.items) one (subst (λ (x : Vec Bool). FlagsNamed tree.nodes x.items) (sym r_is) flags)
  ];
}

-- ---- what leads on

-- what holds of the first few things holds of one more
pub each_more : {X : Type 0} (P : ℕ → X → Type 0) (xs : List X) (k : ℕ) (x : X) → slice_get xs k ≡ Some x → P k x → ((i : ℕ) (y : X) → i < k → slice_get xs i ≡ Some y → P i y)
    → (i : ℕ) (y : X) → i < k + 1 → slice_get xs i ≡ Some y → P i y
each_more P xs k x there holds before i y low is = elim (cases_lt i k) [
  | inl less ↦ before i y less is
  | inr past ↦
      let here : k ≡ i = omega arith in
      subst (λ j. P j y) here (subst (λ z. P k z) (same_some (slice_get xs k) x y there (ap (slice_get xs) here ∙ is)) holds)
]

-- what holds of as many things as there are holds of all
pub each_of : {X : Type 0} (P : ℕ → X → Type 0) (xs : List X) (k : ℕ) → length xs ≤ k → ((i : ℕ) (y : X) → i < k → slice_get xs i ≡ Some y → P i y) → (i : ℕ) (y : X) → slice_get xs i ≡ Some y → P i y
each_of P xs k past before i y is = before i y (let low = slice_get_within xs i y is in omega arith) is

module _ (u : Unit) (marks : Item → Meaning) (named : NodeRef → Bool) (f : ℕ) (nodes : List Node) where
  -- what a node holds is one of its parts, or lies in one
  held_part : (n m : ℕ) → Holds nodes n m → (x : ℕ) × IsPart nodes n x × IsIn nodes x m
  held_part n m (by_part is) = (m, is, inl refl)
  held_part n m (deep {q = q} held is) = let (x, has, inside) = held_part n q held in (x, has, on inside) where
    on : {x : ℕ} → IsIn nodes x q → IsIn nodes x m
    on {x} (inl same) = inr (by_part (subst (λ (y : ℕ). IsPart nodes y m) same is))
    on {x} (inr more) = inr (deep more is)

  -- what leads on in a part does so in the node
  pub leads_part : (n p m : ℕ) → IsPart nodes n p → LeadsIn u marks named f nodes p m → LeadsIn u marks named f nodes n m
  leads_part n p m has (inside, leads) = (inr (holds_in nodes n p m (by_part has) inside), leads)

  -- nothing does in a node where nothing does in its parts
  pub none_leads : (n : ℕ) (node : Node) (k : ℕ) → slice_get nodes n ≡ Some node → leads_on u marks named (place f n) ≡ false → length node.parts ≡ k
      → ((j p : ℕ) → j < k → slice_get node.parts j ≡ Some p → (m : ℕ) → LeadsIn u marks named f nodes p m → ⊥) → (m : ℕ) → LeadsIn u marks named f nodes n m → ⊥
  none_leads n node k there quiet all parts m (inl same, leads) = differ (leads_on u marks named (place f m)) (ap (λ (x : ℕ). leads_on u marks named (place f x)) same ∙ quiet) leads
  none_leads n node k there quiet all parts m (inr held, leads) =
      let (x, has, inside) = held_part n m held in
      let same : has.0 ≡ node = same_some (slice_get nodes n) has.0 node has.1 there in
      let (j, j_at) = stands_in node.parts x (subst (λ (y : Node). Contains y.parts x) same has.2) in
      parts j x (let low = slice_get_within node.parts j x j_at in omega arith) j_at m (inside, leads)

pub vars_there : (nodes : List Node) (n : ℕ) → option_map_or (λ (node : Node). is_vars node.kind) (slice_get nodes n) false ≡ true → (node : Node) × (slice_get nodes n ≡ Some node) × (is_vars node.kind ≡ true)
vars_there nodes n = by (slice_get nodes n) where
  by : (o : Option Node) → option_map_or (λ (node : Node). is_vars node.kind) o false ≡ true → (node : Node) × (o ≡ Some node) × (is_vars node.kind ≡ true)
  by None e = absurd (differ false refl e)
  by (Some node) e = (node, refl, e)

pub part_read : (nodes : List Node) (n : ℕ) (node : Node) (parts : List ℕ) (i : ℕ) → slice_get nodes n ≡ Some node → parts ≡ node.parts → i < length parts → IsPart nodes n (get_or parts i 0)
part_read nodes n node parts i there same low = (node, there, subst (λ (xs : List ℕ). Contains xs (get_or parts i 0)) same (Contains-get_or parts i 0 low))

-- nothing is found where nothing is so
pub none_found : (P : NodeRef → Type 0) (list : List NodeRef) → list ≡ [] → ((at : NodeRef) → P at → ⊥) → (at : NodeRef) → Contains list at ↔ P at
none_found P list bare none at = (
  λ has. absurd (let (k, low, e) = subst (λ (xs : List NodeRef). Contains xs at) bare has in omega (arith, low)),
  λ holds. absurd (none at holds),
)

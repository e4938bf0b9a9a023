-- The edges of the nodes are where control leads.
use Rattle.std.proofs.Common.{◌≡◌, ◌+◌, ℕ, zero, suc, List, [], ◌∷◌, Option, Some, None, refl, sym, ap, ◌∙◌, subst, arith}
use Rattle.std.specs.Prelude.{slice_get}
use Rattle.std.specs.List.{Contains}
use Rattle.std.proofs.lemmas.List.Elements.{Contains-append_left, Contains-append_right, Contains-append_cases}
use Rattle.std.proofs.lemmas.Option.{slice_get_within}
use Rattle.go_tree.specs.declared.tree.FileTree.{FileTree}
use Rattle.go_tree.specs.declared.tree.Node.{Node}
use Rattle.flow.specs.declared.point.Around.{Around}
use Rattle.flow.specs.declared.point.Edge.{Edge}
use Rattle.flow.specs.Around.{IsTree, AreAround, around_at, target_of}
use Rattle.flow.specs.Edges.{before, edge, edges_of, jump_edges}
use Rattle.flow.specs.Flow.{Leads, edges_at, edges_from}
use Rattle.flow.specs.Flow.Leads.{within, jump}
use Rattle.flow.specs.Search.{StepsBy, IsGraph}
use Rattle.flow.proofs.AroundLemmas.{either, same_some, one_around}

-- an edge and the node that it is of
record OfNode (tree : FileTree) (labels : List (Option ℕ)) (table : List Around) (n : ℕ) (nodes : List Node) (e : Edge) : Type 0 where
  i : ℕ
  node : Node
  there : slice_get nodes i ≡ Some node
  is : Contains (edges_at tree labels table (n + i) node) e

of_node : (tree : FileTree) (labels : List (Option ℕ)) (table : List Around) (n : ℕ) (nodes : List Node) (e : Edge) → Contains (edges_from tree labels table n nodes) e → OfNode tree labels table n nodes e
of_node tree labels table n [] e c = absurd (omega (arith, c.1))
of_node tree labels table n (s ∷ nodes) e c = either (Contains-append_cases (edges_at tree labels table n s) (edges_from tree labels table (n + 1) nodes) e c)
    (λ first. record { i = 0; node = s; there = refl; is = subst (λ k. Contains (edges_at tree labels table k s) e) (omega arith) first })
    (λ later. let o = of_node tree labels table (n + 1) nodes e later in
    record { i = suc o.i; node = o.node; there = o.there; is = subst (λ k. Contains (edges_at tree labels table k o.node) e) (omega arith) o.is })

is_of_nodes : (tree : FileTree) (labels : List (Option ℕ)) (table : List Around) (n : ℕ) (nodes : List Node) (i : ℕ) (s : Node) (e : Edge)
    → slice_get nodes i ≡ Some s → Contains (edges_at tree labels table (n + i) s) e → Contains (edges_from tree labels table n nodes) e
is_of_nodes tree labels table n [] i s e at c = absurd (let lt = slice_get_within [] i s at in omega arith)
is_of_nodes tree labels table n (x ∷ nodes) zero s e at c =
    let same : x ≡ s = same_some at in
    Contains-append_left (edges_at tree labels table n x) (edges_from tree labels table (n + 1) nodes) e
    (subst (λ k. Contains (edges_at tree labels table k x) e) (omega arith) (subst (λ y. Contains (edges_at tree labels table (n + 0) y) e) (sym same) c))
is_of_nodes tree labels table n (x ∷ nodes) (suc i) s e at c =
    Contains-append_right (edges_at tree labels table n x) (edges_from tree labels table (n + 1) nodes) e
    (is_of_nodes tree labels table (n + 1) nodes i s e at (subst (λ k. Contains (edges_at tree labels table k s) e) (omega arith) c))

-- the edge of a jump, taken apart
record JumpEdge (n : ℕ) (target : Option ℕ) (p q : ℕ) : Type 0 where
  from : p ≡ before n
  to : target ≡ Some q

jump_edge : (n : ℕ) (target : Option ℕ) (p q : ℕ) → Contains (jump_edges n target) (edge p q) → JumpEdge n target p q
jump_edge n None p q c = absurd (omega (arith, c.1))
jump_edge n (Some t) p q (zero, lt, e) = record { from = sym (ap (λ (x : Edge). x.from) e); to = ap (λ (x : Edge). Some x.to) e }
jump_edge n (Some t) p q (suc k, lt, e) = absurd (omega (arith, lt))

has_jump_edge : (n : ℕ) (target : Option ℕ) (p q : ℕ) → p ≡ before n → target ≡ Some q → Contains (jump_edges n target) (edge p q)
has_jump_edge n target p q from to = rw to (rw from (0, omega arith, refl))

leads_by : (tree : FileTree) (labels : List (Option ℕ)) (table : List Around) → AreAround tree table → (n : ℕ) (node : Node) → slice_get tree.nodes n ≡ Some node → (p q : ℕ)
    → Contains (edges_at tree labels table n node) (edge p q) → Leads tree labels p q
leads_by tree labels table around n node at p q c =
    either (Contains-append_cases (edges_of tree n node.kind node.parts) (jump_edges n (target_of tree labels node (around_at table n))) (edge p q) c)
    (λ inner. within n node at inner)
    (λ jumps. let j = jump_edge n (target_of tree labels node (around_at table n)) p q jumps in
    jump n node (around_at table n) at j.from (around.each n (slice_get_within tree.nodes n node at)) j.to)

edge_by : (tree : FileTree) (labels : List (Option ℕ)) (table : List Around) → IsTree tree.nodes → AreAround tree table → (p q : ℕ)
    → Leads tree labels p q → Contains (edges_from tree labels table 0 tree.nodes) (edge p q)
edge_by tree labels table is around p q (within n node at c) =
    is_of_nodes tree labels table 0 tree.nodes n node (edge p q) at
    (subst (λ k. Contains (edges_at tree labels table k node) (edge p q)) (omega arith)
    (Contains-append_left (edges_of tree n node.kind node.parts) (jump_edges n (target_of tree labels node (around_at table n))) (edge p q) c))
edge_by tree labels table is around p q (jump n node a at from known to) =
    let same : a ≡ around_at table n = one_around tree is known (around.each n (slice_get_within tree.nodes n node at)) in
    is_of_nodes tree labels table 0 tree.nodes n node (edge p q) at
    (subst (λ k. Contains (edges_at tree labels table k node) (edge p q)) (omega arith)
    (Contains-append_right (edges_of tree n node.kind node.parts) (jump_edges n (target_of tree labels node (around_at table n))) (edge p q)
    (has_jump_edge n (target_of tree labels node (around_at table n)) p q from (ap (target_of tree labels node) (sym same) ∙ to))))

pub is_graph : (tree : FileTree) (labels : List (Option ℕ)) (table : List Around) (edges : List Edge) (rows : List (List ℕ)) → IsTree tree.nodes → AreAround tree table
    → edges ≡ edges_from tree labels table 0 tree.nodes → ((p q : ℕ) → (StepsBy rows p q → Contains edges (edge p q)) × (Contains edges (edge p q) → StepsBy rows p q))
    → IsGraph tree labels rows
is_graph tree labels table edges rows is around e steps p q = (
  λ s. let o = of_node tree labels table 0 tree.nodes (edge p q) (subst (λ l. Contains l (edge p q)) e ((steps p q).0 s)) in
      leads_by tree labels table around o.i o.node o.there p q (subst (λ k. Contains (edges_at tree labels table k o.node) (edge p q)) (omega arith) o.is),
  λ l. (steps p q).1 (subst (λ l. Contains l (edge p q)) (sym e) (edge_by tree labels table is around p q l)),
)

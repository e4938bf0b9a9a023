use Rattle.std.proofs.Common.{ℕ, Bool, List, Option, None, length, ◌≤◌, ◌^◌, sym, subst}
use Rattle.go_tree.specs.declared.tree.Node.{Node}
use Rattle.node_values.specs.Parents.{AreParents}
use Rattle.node_values.specs.Trees.{IsTree}
use Rattle.unit_read.specs.Subjects.{unit_of, cell}
use Rattle.body_facts.specs.NameTables.{AreValues, meant_at, ArePanics, AreVariables}
use Rattle.body_facts.proofs.facts.facts_of.Goals as goal

pub panics_of-requires-clause-few : goal.panics_of-requires-clause-few
panics_of-requires-clause-few c = subst (λ (l : List Node). length l ≤ 2 ^ 32) (sym c.as_slice-nodes.ensures) c.requires.few

pub panics_of-requires-clause-tree : goal.panics_of-requires-clause-tree
panics_of-requires-clause-tree c = subst (λ (l : List Node). IsTree l) (sym c.as_slice-nodes.ensures) c.spelled_nodes.ensures.tree

pub panics_of-requires-clause-parents : goal.panics_of-requires-clause-parents
panics_of-requires-clause-parents c =
    subst (λ (l : List Node). AreParents l (length l) c.deref.result.now) (sym c.as_slice-nodes.ensures)
    (subst (λ (p : List ℕ). AreParents c.args.tree.now.nodes (length c.args.tree.now.nodes) p) (sym c.deref.ensures.value) c.in_ok-parents.ensures)

pub variables_of-requires-clause-few : goal.variables_of-requires-clause-few
variables_of-requires-clause-few c = subst (λ (l : List Node). length l ≤ 2 ^ 32) (sym c.as_slice-nodes.ensures) c.requires.few

pub variables_of-requires-clause-tree : goal.variables_of-requires-clause-tree
variables_of-requires-clause-tree c = subst (λ (l : List Node). IsTree l) (sym c.as_slice-nodes.ensures) c.spelled_nodes.ensures.tree

pub variables_of-requires-clause-parents : goal.variables_of-requires-clause-parents
variables_of-requires-clause-parents c =
    subst (λ (l : List Node). AreParents l (length l) c.deref-2.result.now) (sym c.as_slice-nodes.ensures)
    (subst (λ (p : List ℕ). AreParents c.args.tree.now.nodes (length c.args.tree.now.nodes) p) (sym c.deref-2.ensures.value) c.in_ok-parents.ensures)

pub returns : goal.returns
returns c = record {
  labels = c.in_ok-denoted.ensures;
  repeated = c.in_ok-repeated.ensures;
  unused = c.in_ok-unused.ensures;
  shadowed = c.in_ok-shadowed.ensures;
  panics = subst (λ (l : List Node). ArePanics (unit_of c.args.u.now) c.args.number l c.in_ok-panics.panics.items) c.as_slice-nodes.ensures c.in_ok-panics.ensures;
  variables = subst (λ (l : List Node). AreVariables (unit_of c.args.u.now) c.args.number l c.in_ok-variables.variables.items) c.as_slice-nodes.ensures c.in_ok-variables.ensures;
  meant = subst (λ (n : ℕ). AreValues (meant_at (cell c.args.meant.now.items) c.args.number) None n c.in_ok-names.names.items) c.count_nodes.ensures c.in_ok-names.ensures;
}

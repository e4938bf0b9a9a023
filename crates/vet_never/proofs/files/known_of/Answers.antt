use Rattle.std.proofs.Common.{ℕ, List, Option, sym, subst}
use Rattle.file_flow.specs.Told.{AreTold}
use Rattle.flow.specs.Search.{IsGraph}
use Rattle.findings.specs.Passes.{unit_in, marks_in}
use Rattle.vet_never.specs.InCode.{AreCallees}
use Rattle.vet_never.proofs.files.known_of.Goals as goal

pub file_graph-requires-clause-told : goal.file_graph-requires-clause-told
file_graph-requires-clause-told c = subst (λ (l : List (Option ℕ)). AreTold c.args.bytes.now c.args.tree.now l) (sym c.deref.ensures.value) c.in_ok-labels.ensures

pub returns : goal.returns
returns c =
    let u = unit_in c.args.p.now in
    let tree = c.args.tree.now in
    let (row, callees, calls) = c.in_ok-calls.ensures in (
      row,
      record {
        told = subst (λ (b : List ℕ). AreTold b tree c.in_ok-labels.labels.items) c.requires.bytes c.in_ok-labels.ensures;
        graph = subst (λ (l : List (Option ℕ)). IsGraph tree l c.in_ok-graph.graph) c.deref.ensures.value c.in_ok-graph.ensures.graph;
        callees = subst (λ (n : ℕ). AreCallees u (marks_in c.args.p.now) c.args.file n row) c.node_count.ensures callees;
        calls = calls;
      },
    )

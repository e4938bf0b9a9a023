use Rattle.std.proofs.Common.{◌≡◌, List, Some, length, slice_get, subst, ap, arith, refl}
use Rattle.std.proofs.lemmas.Option.{slice_get_read}
use Rattle.go_tree.specs.declared.tree.Node.{Node}
use Rattle.unit_read.specs.Units.{nodes_at}
use Rattle.findings.specs.Passes.{unit_in, marks_in}
use Rattle.findings.specs.InCode.{reported_nth}
use Rattle.findings.proofs.GainLemmas.{below_none, below_more, below_all}
use Rattle.findings.proofs.running.report_file.Goals as goal

pub loop-node-init : goal.loop-node-init
loop-node-init g c = below_none (reported_nth (g.R.Reports.reported c.args.rule.now) (unit_in c.args.pass.now) (marks_in c.args.pass.now) c.args.file) c.args.found.now.items

pub report_node-requires-clause-node : goal.report_node-requires-clause-node
report_node-requires-clause-node g c =
    subst (λ (l : List Node). slice_get l c.loop-node.node ≡ Some c.index-nodes-node.result) c.nodes_in-nodes.ensures.nodes
    (slice_get_read c.nodes_in-nodes.result.now (length c.nodes_in-nodes.result.now) c.loop-node.node c.index-nodes-node.result refl c.loop-node-test.true c.index-nodes-node.is)

pub loop-node-preserved : goal.loop-node-preserved
loop-node-preserved g c =
    below_more (reported_nth (g.R.Reports.reported c.args.rule.now) (unit_in c.args.pass.now) (marks_in c.args.pass.now) c.args.file) c.loop-node.node c.args.found.now.items c.loop-node.found.items
    c.report_node.new.found.items c.loop-node.invariant c.in_ok-report_node.ensures

pub returns : goal.returns
returns g c =
    let size : length c.nodes_in-nodes.result.now ≡ length (nodes_at (unit_in c.args.pass.now) c.args.file) = ap length c.nodes_in-nodes.ensures.nodes in
    below_all (reported_nth (g.R.Reports.reported c.args.rule.now) (unit_in c.args.pass.now) (marks_in c.args.pass.now) c.args.file) c.loop-node.node (length (nodes_at (unit_in c.args.pass.now) c.args.file))
    c.args.found.now.items c.loop-node.found.items (omega (arith, size)) c.loop-node.invariant

use Rattle.std.proofs.Common.{◌≡◌, ◌↔◌, ℕ, Bool, true, List, Some, length, slice_get, subst, ap, arith, refl}
use Rattle.std.proofs.lemmas.Option.{slice_get_read}
use Rattle.go_tree.specs.declared.tree.Node.{Node}
use Rattle.typed_marks.specs.declared.item.Item.{Item}
use Rattle.typed_marks.specs.Meanings.{Meaning}
use Rattle.unit_read.specs.Units.{Unit, nodes_at}
use Rattle.findings.specs.Passes.{unit_in, marks_in}
use Rattle.vet_locks.specs.Held.{MayTellAt, MayTellNode}
use Rattle.vet_locks.proofs.ReportLemmas.{some_says, none_first, none_more, none_all, one_is}
use Rattle.vet_locks.proofs.held.may_tell_in.Goals as goal

-- what is told of a node that was read is told of the node of its number
node_says : (u : Unit) (marks : Item → Meaning) (f n : ℕ) (nodes : List Node) (node : Node) (b : Bool) → nodes ≡ nodes_at u f → slice_get nodes n ≡ Some node → (b ≡ true) ↔ MayTellAt u marks f node → (b ≡ true) ↔ MayTellNode u marks f n
node_says u marks f n nodes node b are there tells = some_says (MayTellAt u marks f) (slice_get (nodes_at u f) n) node b (subst (λ (l : List Node). slice_get l n ≡ Some node) are there) tells

pub loop-n-init : goal.loop-n-init
loop-n-init c = none_first (MayTellNode (unit_in c.args.p.now) (marks_in c.args.p.now) c.args.file)

pub loop-n-preserved : goal.loop-n-preserved
loop-n-preserved c =
    let u = unit_in c.args.p.now in
    let marks = marks_in c.args.p.now in
    none_more (MayTellNode u marks c.args.file) c.loop-n.n c.may_tell.result c.loop-n.invariant
    (node_says u marks c.args.file c.loop-n.n c.nodes_at-nodes.result.now c.index-nodes-n.result c.may_tell.result c.nodes_at-nodes.ensures
    (slice_get_read c.nodes_at-nodes.result.now (length c.nodes_at-nodes.result.now) c.loop-n.n c.index-nodes-n.result refl c.loop-n-test.true c.index-nodes-n.is) c.may_tell.ensures)
    c.if-may_tell.false

pub returns-then-may_tell : goal.returns-then-may_tell
returns-then-may_tell c =
    let u = unit_in c.args.p.now in
    let marks = marks_in c.args.p.now in
    let size : length c.nodes_at-nodes.result.now ≡ length (nodes_at u c.args.file) = ap length c.nodes_at-nodes.ensures in
    one_is (MayTellNode u marks c.args.file) c.loop-n.n (length (nodes_at u c.args.file)) c.may_tell.result (omega (arith, size))
    (node_says u marks c.args.file c.loop-n.n c.nodes_at-nodes.result.now c.index-nodes-n.result c.may_tell.result c.nodes_at-nodes.ensures
    (slice_get_read c.nodes_at-nodes.result.now (length c.nodes_at-nodes.result.now) c.loop-n.n c.index-nodes-n.result refl c.loop-n-test.true c.index-nodes-n.is) c.may_tell.ensures)
    c.if-may_tell.true

pub returns : goal.returns
returns c =
    let size : length c.nodes_at-nodes.result.now ≡ length (nodes_at (unit_in c.args.p.now) c.args.file) = ap length c.nodes_at-nodes.ensures in
    none_all (MayTellNode (unit_in c.args.p.now) (marks_in c.args.p.now) c.args.file) c.loop-n.n (length (nodes_at (unit_in c.args.p.now) c.args.file)) (omega (arith, size)) c.loop-n.invariant

use Rattle.std.proofs.Common.{ℕ, Bool, length, true, false, sym, ap, ◌∙◌, arith}
use Rattle.package_objects.specs.Declares.{items}
use Rattle.unit_read.specs.Units.{nodes_at}
use Rattle.findings.specs.Passes.{unit_in, marks_in}
use Rattle.vet_simple.specs.Assigning.{is_self_pair, all_below}
use Rattle.vet_simple.proofs.PairLemmas.{below_fails, below_holds, below_end}
use Rattle.vet_simple.proofs.assigning.all_self.Goals as goal

pub loop-i-preserved : goal.loop-i-preserved
loop-i-preserved c =
    let u = unit_in c.args.p.now in
    let f = c.args.s.file in
    below_holds (is_self_pair u (marks_in c.args.p.now) f (items (nodes_at u f) c.args.s.left) (items (nodes_at u f) c.args.s.right)) c.loop-i.i c.loop-i.invariant (sym c.in_ok-pair.ensures ∙ c.if-not-pair.false)

pub returns-then-not-pair : goal.returns-then-not-pair
returns-then-not-pair c =
    let u = unit_in c.args.p.now in
    let f = c.args.s.file in
    sym (below_fails (is_self_pair u (marks_in c.args.p.now) f (items (nodes_at u f) c.args.s.left) (items (nodes_at u f) c.args.s.right)) c.loop-i.i (length (items (nodes_at u f) c.args.s.left)) (omega arith)
    (sym c.in_ok-pair.ensures ∙ c.if-not-pair.true))

pub returns : goal.returns
returns c =
    let u = unit_in c.args.p.now in
    let f = c.args.s.file in
    below_end (is_self_pair u (marks_in c.args.p.now) f (items (nodes_at u f) c.args.s.left) (items (nodes_at u f) c.args.s.right)) c.loop-i.i (length (items (nodes_at u f) c.args.s.left)) (omega arith) (omega arith)
    c.loop-i.invariant

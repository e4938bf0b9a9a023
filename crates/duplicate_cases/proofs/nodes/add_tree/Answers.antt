use Rattle.std.proofs.Common.{List, length, ap, ◌∙◌, ◌++◌, arith, subst, ◌≡◌}
use Rattle.mark_walk.specs.Asks.{filled}
use Rattle.go_tree.specs.declared.tree.Node.{Node}
use Rattle.package_objects.proofs.GatherLemmas.{gather_on, gather_all}
use Rattle.typed_marks.specs.Meanings.{Quiet}
use Rattle.typed_marks.specs.States.{so_far}
use Rattle.duplicate_cases.specs.InCode.{nth_duplicates}
use Rattle.duplicate_cases.proofs.nodes.add_tree.Goals as goal

pub loop-n-preserved : goal.loop-n-preserved
loop-n-preserved c =
    gather_on (nth_duplicates (filled Quiet (so_far c.args.s.now)) c.args.file c.args.tree.now.nodes) c.loop-n.n c.args.out.now.items c.loop-n.out.items c.add_nth.new.out.items c.loop-n.invariant
    (c.in_ok-add_nth.ensures ∙ ap (λ (l : List Node). c.loop-n.out.items ++ nth_duplicates (filled Quiet (so_far c.args.s.now)) c.args.file l c.loop-n.n) c.as_slice-nodes.ensures)

pub returns : goal.returns
returns c =
    gather_all (nth_duplicates (filled Quiet (so_far c.args.s.now)) c.args.file c.args.tree.now.nodes) c.loop-n.n (length c.args.tree.now.nodes) c.args.out.now.items c.loop-n.out.items
    (let e : length c.as_slice-nodes.result.now ≡ length c.args.tree.now.nodes = ap (λ (l : List Node). length l) c.as_slice-nodes.ensures in let t = c.loop-n-test.false in omega arith)
    (let e : length c.as_slice-nodes.result.now ≡ length c.args.tree.now.nodes = ap (λ (l : List Node). length l) c.as_slice-nodes.ensures in let t = c.loop-n.auto.n-end in omega arith)
    c.loop-n.invariant

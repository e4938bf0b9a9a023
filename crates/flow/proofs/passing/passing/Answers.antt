use Rattle.std.proofs.Common.{◌∙◌, List, Bool, ap}
use Rattle.flow.specs.Passing.{flag_of, passes_by}
use Rattle.flow.proofs.AroundLemmas.{read_at}
use Rattle.flow.proofs.PassingLemmas.{passing_more}
use Rattle.flow.proofs.passing.passing.Goals as goal

pub loop-n-preserved : goal.loop-n-preserved
loop-n-preserved c =
    let there = read_at c.args.tree.now.nodes c.as_slice-nodes.result.now c.loop-n.n c.index-nodes-n.result c.index-nodes-n.result c.as_slice-nodes.ensures c.loop-n-test.true c.index-nodes-n.is in
    let told = c.passes-flag.ensures ∙ ap (λ (l : List Bool). passes_by c.args.tree.now (flag_of c.args.stops.now) (flag_of c.args.left.now) (flag_of l) c.loop-n.n c.index-nodes-n.result) c.deref.ensures.value in
    passing_more c.args.tree.now c.args.labels.now (flag_of c.args.stops.now) c.args.left.now c.loop-n.flags.items c.push.new.self.items c.loop-n.n c.passes-flag.result c.index-nodes-n.result
    c.requires.tree c.requires.left there told c.in_ok-push.ensures.items c.loop-n.invariant

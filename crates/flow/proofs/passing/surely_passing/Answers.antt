use Rattle.std.proofs.Common.{◌∙◌, [], List, Bool, length, ap, arith}
use Rattle.flow.specs.Passing.{flag_of, passes_by}
use Rattle.flow.proofs.AroundLemmas.{read_at}
use Rattle.flow.proofs.PassingLemmas.{none_sure, sure_more, all_sure}
use Rattle.flow.proofs.passing.surely_passing.Goals as goal

pub loop-n-init : goal.loop-n-init
loop-n-init c = λ labels. none_sure c.args.tree.now labels (flag_of c.args.stops.now) c.new-flags.result.items c.new-flags.ensures.items

pub loop-n-preserved : goal.loop-n-preserved
loop-n-preserved c =
    let there = read_at c.args.tree.now.nodes c.as_slice-nodes.result.now c.loop-n.n c.index-nodes-n.result c.index-nodes-n.result c.as_slice-nodes.ensures c.loop-n-test.true c.index-nodes-n.is in
    let told = c.passes-flag.ensures ∙ ap (λ (l : List Bool). passes_by c.args.tree.now (flag_of c.args.stops.now) (flag_of []) (flag_of l) c.loop-n.n c.index-nodes-n.result) c.deref.ensures.value in
    λ labels. sure_more c.args.tree.now labels (flag_of c.args.stops.now) c.loop-n.flags.items c.push.new.self.items c.loop-n.n c.passes-flag.result c.index-nodes-n.result
    c.requires.tree there told c.in_ok-push.ensures.items (c.loop-n.invariant labels)

pub returns : goal.returns
returns c = λ labels.
    let size = ap length c.as_slice-nodes.ensures in
    all_sure c.args.tree.now labels (flag_of c.args.stops.now) c.loop-n.n (length c.args.tree.now.nodes) c.loop-n.flags.items (let t = c.loop-n-test.false in let e = c.loop-n.auto.n-end in omega arith) (c.loop-n.invariant labels)

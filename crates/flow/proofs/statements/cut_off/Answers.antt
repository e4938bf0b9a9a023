use Rattle.std.proofs.Common.{length, refl, arith}
use Rattle.std.proofs.lemmas.Option.{slice_get_read}
use Rattle.flow.specs.Edges.{before}
use Rattle.flow.specs.Passing.{flag_of, IsCutOffIn}
use Rattle.flow.proofs.CutLemmas.{cut_more}
use Rattle.flow.proofs.MarkLemmas.{all_marked_so}
use Rattle.flow.proofs.statements.cut_off.Goals as goal

pub loop-n-preserved : goal.loop-n-preserved
loop-n-preserved c =
    let there = slice_get_read c.args.nodes.now (length c.args.nodes.now) c.loop-n.n c.index-nodes-n.result refl c.loop-n-test.true c.index-nodes-n.is in
    cut_more (flag_of c.args.passing.now) (λ n. flag_of c.args.named.now (before n)) c.args.nodes.now c.loop-n.n c.index-nodes-n.result c.statements_of.result.now c.loop-n.flags.items c.mark_behind.new.flags.items
    there c.statements_of.ensures c.loop-n.invariant c.mark_behind.ensures

pub returns : goal.returns
returns c =
    let low = c.loop-n.auto.n-end in
    let high = c.loop-n-test.false in
    all_marked_so (IsCutOffIn (flag_of c.args.passing.now) (λ n. flag_of c.args.named.now (before n)) c.args.nodes.now) c.loop-n.n (length c.args.nodes.now) (length c.args.nodes.now) c.loop-n.flags.items (omega arith) (omega arith) c.loop-n.invariant

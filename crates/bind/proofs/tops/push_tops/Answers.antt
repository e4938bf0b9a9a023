use Rattle.bind.specs.Tables.{pairs}
use Rattle.bind.proofs.PackageLemmas.{tops_more}
use Rattle.bind.proofs.StepLemmas.{tops_all}
use Rattle.bind.proofs.tops.push_tops.Goals as goal

pub loop-named-preserved : goal.loop-named-preserved
loop-named-preserved c =
    tops_more c.args.file.now c.args.number c.as_slice-names.result.now c.loop-named.named-index _ (pairs c.args.out.now.items) (pairs c.loop-named.out.items) (pairs c.push_top.new.out.items)
    c.loop-named-test.true c.loop-named.invariant c.in_ok-push_top.ensures

pub returns : goal.returns
returns c =
    tops_all c.args.file.now c.args.number c.as_slice-names.result.now c.args.file.now.locals.names.items c.loop-named.named-index (pairs c.args.out.now.items) (pairs c.loop-named.out.items)
    c.loop-named-test.false c.as_slice-names.ensures.value c.loop-named.invariant

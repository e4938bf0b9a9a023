use Rattle.std.proofs.Common.{[], length, arith, ap, ◌∙◌, ◌≡◌}
use Rattle.package_objects.specs.Declares.{gather}
use Rattle.package_objects.proofs.GatherLemmas.{gather_more}
use Rattle.duplicate_cases.specs.Duplicates.{nth_listed}
use Rattle.duplicate_cases.proofs.listed.listed.Goals as goal

pub loop-i-preserved : goal.loop-i-preserved
loop-i-preserved c = gather_more (nth_listed c.args.nodes.now c.args.switch.now) c.loop-i.i c.loop-i.list.items c.push_nth.new.out.items c.loop-i.invariant c.in_ok-push_nth.ensures

pub returns : goal.returns
returns c =
    let same : c.loop-i.i ≡ length c.args.switch.now.parts = (let t = c.loop-i-test.false in let e = c.loop-i.auto.i-end in let k = c.part_count-i-end.ensures in omega arith) in
    c.loop-i.invariant ∙ ap (λ n. gather (nth_listed c.args.nodes.now c.args.switch.now) n) same

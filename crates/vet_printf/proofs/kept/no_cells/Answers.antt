use Rattle.std.proofs.Common.{None, arith}
use Rattle.type_model.specs.Tables.{count}
use Rattle.vet_printf.specs.Tables.{IsJudged}
use Rattle.vet_printf.proofs.EachLemmas.{none_yet, one_more, all_there}
use Rattle.vet_printf.proofs.kept.no_cells.Goals as goal

pub loop-id-init : goal.loop-id-init
loop-id-init c = none_yet (IsJudged c.args.t.now) c.in_ok-cells.cells.items c.in_ok-cells.ensures.items

pub loop-id-preserved : goal.loop-id-preserved
loop-id-preserved c = one_more (IsJudged c.args.t.now) c.loop-id.id c.loop-id.cells.items c.push.new.self.items None c.loop-id.invariant tt c.in_ok-push.ensures.items

pub returns : goal.returns
returns c =
    let told = c.count_types-count.ensures in
    all_there (IsJudged c.args.t.now) c.loop-id.id (count c.args.t.now) c.loop-id.cells.items (omega (arith, c.loop-id-test.false, c.loop-id.auto.id-end, told)) c.loop-id.invariant

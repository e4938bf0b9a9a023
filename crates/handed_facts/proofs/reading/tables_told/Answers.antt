use Rattle.std.proofs.Common.{arith}
use Rattle.handed_facts.proofs.HandedLemmas.{none_told, told_more, all_told}
use Rattle.handed_facts.proofs.reading.tables_told.Goals as goal

pub loop-i-init : goal.loop-i-init
loop-i-init g c = none_told g.F.FactKind.spelling c.args.given.now c.new-tables.result.items c.new-tables.ensures.items

pub loop-i-preserved : goal.loop-i-preserved
loop-i-preserved g c = told_more g.F.FactKind.spelling c.args.given.now c.loop-i.i c.loop-i.tables.items c.push.new.self.items c.in_ok-table.table c.loop-i.invariant c.in_ok-table.ensures c.in_ok-push.ensures.items

pub returns : goal.returns
returns g c = all_told g.F.FactKind.spelling c.args.given.now c.loop-i.i c.loop-i.tables.items (omega (arith, c.loop-i-test.false, c.loop-i.auto.i-end)) c.loop-i.invariant

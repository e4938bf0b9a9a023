use Rattle.std.proofs.Common.{◌≡◌, ◌<◌, ℕ, length, subst, arith}
use Rattle.tree_report.specs.Readings.{AreReadings}
use Rattle.tree_report.proofs.ReadingLemmas.{readings_none, readings_more}
use Rattle.tree_report.proofs.readings.readings_of.Goals as goal

pub loop-file-init : goal.loop-file-init
loop-file-init c = readings_none c.new-list.result.items c.new-list.ensures.items

pub loop-file-preserved : goal.loop-file-preserved
loop-file-preserved c =
    readings_more c.loop-file.file c.loop-file.list.items c.push.new.self.items c.reading_of-reading.result c.loop-file.invariant (let test = c.loop-file-test.true in omega (arith, test))
    c.reading_of-reading.ensures c.in_ok-push.ensures.items

pub returns : goal.returns
returns c =
    let same : c.loop-file.file ≡ length c.args.files.now = (let test = c.loop-file-test.false in let count = c.count-file-end.ensures in let auto = c.loop-file.auto in omega arith) in
    subst (λ (n : ℕ). AreReadings n c.loop-file.list.items) same c.loop-file.invariant

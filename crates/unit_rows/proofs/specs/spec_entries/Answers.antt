use Rattle.std.proofs.Common.{◌≡◌, ℕ, length, subst, arith}
use Rattle.unit_read.proofs.CellLemmas.{item_is}
use Rattle.unit_rows.specs.Rows.{AreSpecs}
use Rattle.unit_rows.proofs.SpecLemmas.{specs_more, specs_all}
use Rattle.unit_rows.proofs.specs.spec_entries.Goals as goal

pub loop-file-preserved : goal.loop-file-preserved
loop-file-preserved c =
    specs_more c.args.trees.now c.loop-file.table.items c.push.new.self.items c.loop-file.file c.index-trees-file.result c.in_ok-row.row c.loop-file.invariant
    (item_is c.args.trees.now c.loop-file.file c.index-trees-file.result c.loop-file-test.true c.index-trees-file.is) c.in_ok-row.ensures c.in_ok-push.ensures.items

pub returns : goal.returns
returns c = λ at.
    let end : c.loop-file.file ≡ length c.args.trees.now = omega arith in
    specs_all c.args.trees.now c.loop-file.table.items at (subst (λ (n : ℕ). AreSpecs c.args.trees.now c.loop-file.table.items n) end c.loop-file.invariant)

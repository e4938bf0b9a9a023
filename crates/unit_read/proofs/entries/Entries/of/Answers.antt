use Rattle.std.proofs.Common.{◌≡◌, ℕ, length, subst, arith}
use Rattle.unit_read.specs.Entries.{AreKept}
use Rattle.unit_read.proofs.EntryLemmas.{kept_more, kept_all, cell_is}
use Rattle.unit_read.proofs.entries.Entries.of.Goals as goal

pub loop-n-preserved : goal.loop-n-preserved
loop-n-preserved g c =
    kept_more c.loop-n.list.items c.add.new.list.items c.args.row.now c.loop-n.n c.index-row-n.result c.loop-n.invariant
    (cell_is c.args.row.now c.loop-n.n c.index-row-n.result (omega arith) c.index-row-n.is) c.in_ok-add.ensures

pub returns : goal.returns
returns g c n =
    let end : c.loop-n.n ≡ length c.args.row.now = omega arith in
    kept_all c.loop-n.list.items c.args.row.now n (subst (λ (m : ℕ). AreKept c.loop-n.list.items c.args.row.now m) end c.loop-n.invariant)

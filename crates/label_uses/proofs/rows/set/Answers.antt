use Rattle.std.proofs.Common.{arith}
use Rattle.label_uses.proofs.RowLemmas.{set_one, set_past}
use Rattle.label_uses.proofs.rows.set.Goals as goal

pub returns-then-n-as_slice : goal.returns-then-n-as_slice
returns-then-n-as_slice c = set_one c.args.flags.now.items c.args.n (let e = c.as_slice.ensures.len in let t = c.if-n-as_slice.true in omega arith)

pub returns-else-n-as_slice : goal.returns-else-n-as_slice
returns-else-n-as_slice c = set_past c.args.flags.now.items c.args.n (let e = c.as_slice.ensures.len in let t = c.if-n-as_slice.false in omega arith)

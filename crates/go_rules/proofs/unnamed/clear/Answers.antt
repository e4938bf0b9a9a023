use Rattle.std.proofs.Common.{sym, arith}
use Rattle.go_rules.proofs.UnnamedLemmas.{set_past}
use Rattle.go_rules.proofs.unnamed.clear.Goals as goal

pub returns-else-n-as_slice : goal.returns-else-n-as_slice
returns-else-n-as_slice c = sym (set_past c.args.flags.now.items c.args.n (let e = c.as_slice.ensures.len in let t = c.if-n-as_slice.false in omega arith))

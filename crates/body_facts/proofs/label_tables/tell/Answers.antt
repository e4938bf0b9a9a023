use Rattle.std.proofs.Common.{arith}
use Rattle.body_facts.proofs.LabelLemmas.{tells_one, tells_past}
use Rattle.body_facts.proofs.label_tables.tell.Goals as goal

pub returns-then-n-count_of : goal.returns-then-n-count_of
returns-then-n-count_of c = tells_one c.args.found.now.items c.args.n c.args.label (let e = c.count_of.ensures in let t = c.if-n-count_of.true in omega arith)

pub returns-else-n-count_of : goal.returns-else-n-count_of
returns-else-n-count_of c = tells_past c.args.found.now.items c.args.n c.args.label (let e = c.count_of.ensures in let t = c.if-n-count_of.false in omega arith)

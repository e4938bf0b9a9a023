use Rattle.std.proofs.Common.{arith}
use Rattle.label_uses.proofs.FunctionLemmas.{given_one, given_past}
use Rattle.label_uses.proofs.parts.put.Goals as goal

pub returns-then-at-count_of : goal.returns-then-at-count_of
returns-then-at-count_of c = given_one c.args.numbers.now.items c.args.at c.args.number (let e = c.count_of.ensures in let t = c.if-at-count_of.true in omega arith)

pub returns-else-at-count_of : goal.returns-else-at-count_of
returns-else-at-count_of c = given_past c.args.numbers.now.items c.args.at c.args.number (let e = c.count_of.ensures in let t = c.if-at-count_of.false in omega arith)

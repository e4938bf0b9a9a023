use Rattle.std.proofs.Common.{arith}
use Rattle.label_uses.proofs.heads.end_of.Goals as goal

pub returns-clause-low : goal.returns-clause-low
returns-clause-low c = omega (arith, c.max.ensures)

pub returns-clause-high : goal.returns-clause-high
returns-clause-high c = omega (arith, c.max.ensures)

pub returns-clause-least : goal.returns-clause-least
returns-clause-least c = λ n low high. omega (arith, c.max.ensures)

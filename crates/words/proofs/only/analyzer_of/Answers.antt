use Rattle.std.proofs.Common.{arith}
use Rattle.words.proofs.ListLaws.{unnamed}
use Rattle.words.proofs.only.analyzer_of.Goals as goal

pub returns : goal.returns
returns c = unnamed c.args.name.now (λ a lt. c.loop-number.invariant a (let past = c.loop-number-test.false in omega (arith, lt, past)))

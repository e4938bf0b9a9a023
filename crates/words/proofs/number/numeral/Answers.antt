use Rattle.std.proofs.Common.{arith}
use Rattle.words.proofs.NumberLaws.{numeral-answer}
use Rattle.words.proofs.number.numeral.Goals as goal

pub returns : goal.returns
returns c = numeral-answer c.args.most c.args.text.now c.number_in.result (omega arith) c.number_in.ensures

use Rattle.std.proofs.Common.{◌<◌, arith}
use Rattle.scripts.specs.Words.{number_of}
use Rattle.scripts.proofs.WordLaws.{number_of-below}
use Rattle.scripts.proofs.script.find_word.Goals as goal

pub returns : goal.returns
returns c = λ word more after e. c.loop-number.invariant word (let h : number_of word < 9 = number_of-below word in let n = c.loop-number-test.false in omega arith) more after e

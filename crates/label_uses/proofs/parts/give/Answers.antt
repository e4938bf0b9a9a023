use Rattle.label_uses.proofs.FunctionLemmas.{given_none, given_more}
use Rattle.label_uses.proofs.parts.give.Goals as goal

pub loop-part-init : goal.loop-part-init
loop-part-init c = given_none c.args.numbers.now.items c.args.number

pub loop-part-preserved : goal.loop-part-preserved
loop-part-preserved c = given_more c.args.parts.now c.loop-part.part-index c.args.number c.args.numbers.now.items c.loop-part.numbers.items c.put.new.numbers.items c.loop-part-test.true c.loop-part.invariant c.put.ensures

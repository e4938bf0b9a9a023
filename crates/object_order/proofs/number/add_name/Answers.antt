use Rattle.object_order.proofs.NumberLemmas.{adds_known, adds_fresh}
use Rattle.object_order.proofs.number.add_name.Goals as goal

pub returns-in-Some : goal.returns-in-Some
returns-in-Some c = adds_known c.args.numbers.now c.args.key _ c.args.k c.in-Some.ensures

pub returns-in_ok-keep-in-None : goal.returns-in_ok-keep-in-None
returns-in_ok-keep-in-None c = adds_fresh c.args.numbers.now c.keep.new.numbers c.args.key c.args.k c.in-None.ensures c.in_ok-keep-in-None.ensures

use Rattle.std.proofs.Common.{sym, ◌∙◌, ap}
use Rattle.object_order.specs.SpotRows.{kept_in}
use Rattle.object_order.proofs.SearchLemmas.{finds_itself, known_there}
use Rattle.object_order.proofs.explore.number.Goals as goal

pub add_new-requires-clause-fresh : goal.add_new-requires-clause-fresh
add_new-requires-clause-fresh c = ap (λ x. kept_in c.args.numbers.now x) (sym c.key-own.ensures) ∙ sym c.in-None.ensures

pub returns-in-Some-clause-finds : goal.returns-in-Some-clause-finds
returns-in-Some-clause-finds c = finds_itself c.args.numbers.now c.args.found.now.items _ c.requires

pub returns-in-Some-clause-number : goal.returns-in-Some-clause-number
returns-in-Some-clause-number c = known_there c.args.numbers.now c.args.found.now.items c.args.spot _ c.in-Some.number c.requires c.key-own.ensures c.in-Some.ensures

use Rattle.object_order.proofs.SearchLemmas.{finds_new, new_there}
use Rattle.object_order.proofs.explore.add_new.Goals as goal

pub returns-clause-finds : goal.returns-clause-finds
returns-clause-finds c =
    finds_new c.args.numbers.now _ c.args.found.now.items _ c.args.spot _ _ c.requires.are c.requires.fresh c.height-place.ensures.value c.requires.few c.key-own.ensures c.in_ok-keep.ensures
    c.in_ok-push.ensures.items

pub returns-clause-number : goal.returns-clause-number
returns-clause-number c = new_there c.args.found.now.items _ c.args.spot _ c.height-place.ensures.value c.in_ok-push.ensures.items

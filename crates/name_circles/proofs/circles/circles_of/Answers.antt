use Rattle.std.proofs.Common.{List, sym, subst}
use Rattle.object_order.specs.declared.spot.Entry.{Entry}
use Rattle.object_order.specs.Names.{AreNamed}
use Rattle.name_circles.proofs.MarkLemmas.{named_opened, marked}
use Rattle.name_circles.proofs.circles.circles_of.Goals as goal

pub order_of-requires : goal.order_of-requires
order_of-requires c =
    subst (λ (es : List Entry). AreNamed es c.args.view.numbers) (sym c.in_ok-entries.ensures) (named_opened c.args.view.entries.items c.args.view.numbers c.requires)

pub returns : goal.returns
returns c =
    marked c.args.view.trees.now c.args.view.meant.now c.args.view.entries.items c.in_ok-entries.entries.items c.args.view.numbers c.args.view.groups.items c.in_ok-order.order.items c.in_ok-entries.ensures
    c.in_ok-order.ensures

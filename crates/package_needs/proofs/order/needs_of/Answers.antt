use Rattle.package_needs.specs.Keys.{flagged}
use Rattle.package_needs.proofs.WorldLemmas.{needs_are}
use Rattle.package_needs.proofs.order.needs_of.Goals as goal

pub order_of-requires : goal.order_of-requires
order_of-requires c = c.in_ok-numbers.ensures

pub returns : goal.returns
returns c = needs_are c.args.b.now c.args.files.now (flagged c.args.elsewhere.now.items) c.in_ok-rows.rows.items c.deref.result.now c.deref-2.result.now c.deref-3.result.now c.in_ok-meant.meant.items c.in_ok-entries.entries.items
    c.in_ok-numbers.numbers c.new.result.items c.in_ok-groups.groups.items c.in_ok-order.order.items c.in_ok-owners.owners.items c.new.ensures.items c.in_ok-rows.ensures c.deref.ensures.value c.deref-2.ensures.value c.deref-3.ensures.value
    c.in_ok-entries.ensures c.in_ok-numbers.ensures c.in_ok-groups.ensures c.in_ok-meant.ensures c.in_ok-order.ensures c.in_ok-owners.ensures

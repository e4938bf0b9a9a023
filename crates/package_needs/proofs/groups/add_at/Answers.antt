use Rattle.object_order.specs.Views.{world_of}
use Rattle.package_needs.proofs.GroupLemmas.{known_base, at_some, at_none}
use Rattle.package_needs.proofs.groups.add_at.Goals as goal

pub add_method-requires-clause-known : goal.add_method-requires-clause-known
add_method-requires-clause-known c = known_base (world_of c.args.view.now) c.args.at c.method_at.result c.in-Some.method c.method_at.ensures c.in-Some.is

pub returns-in_ok-add_method-in-Some : goal.returns-in_ok-add_method-in-Some
returns-in_ok-add_method-in-Some c = at_some (world_of c.args.view.now) c.args.at c.method_at.result c.in-Some.method c.args.view.now.numbers c.args.groups.now.items c.add_method.new.groups.items
    c.method_at.ensures c.in-Some.is c.in_ok-add_method-in-Some.ensures

pub returns-in-None : goal.returns-in-None
returns-in-None c = at_none (world_of c.args.view.now) c.args.at c.method_at.result c.args.view.now.numbers c.args.groups.now.items c.method_at.ensures c.in-None.is

use Rattle.std.proofs.Common.{arith}
use Rattle.object_order.specs.Quiet.{quiet_at}
use Rattle.object_order.specs.Trimmed.{trimmed_moves}
use Rattle.object_order.specs.Views.{world_of}
use Rattle.object_order.proofs.GraphLemmas.{closed}
use Rattle.object_order.specs.Names.{IsNamed}
use Rattle.object_order.specs.Orders.{NeedsBy}
use Rattle.object_order.specs.Cases.{NeedsOf}
use Rattle.object_order.proofs.NameLemmas.{order_is}
use Rattle.object_order.proofs.CaseLaws.{to_cases, from_cases, order_over}
use Rattle.object_order.proofs.TrimLemmas.{to_trimmed, from_trimmed}
use Rattle.object_order.proofs.order.order_of.Goals as goal

pub ordered-requires-clause-few : goal.ordered-requires-clause-few
ordered-requires-clause-few c = (let e = c.in_ok-explored.ensures.size in let f = c.in_ok-explored.ensures.numbered.few in omega arith)

pub ordered-requires-clause-closed : goal.ordered-requires-clause-closed
ordered-requires-clause-closed c =
    closed (trimmed_moves (quiet_at c.in_ok-quiet.quiet.items) (world_of c.args.view.now)) _ c.in_ok-explored.explored.found.items c.in_ok-explored.explored.numbers
    c.in_ok-explored.explored.graph c.in_ok-explored.ensures

pub returns : goal.returns
returns c =
    let w = world_of c.args.view.now in
    let quiet = quiet_at c.in_ok-quiet.quiet.items in
    order_over (NeedsBy (trimmed_moves quiet w)) (NeedsOf w) (IsNamed c.args.view.now.entries.items) c.in_ok-order.order.items
    (λ o u need. to_cases w o u (from_trimmed w quiet o u need)) (λ o u need. to_trimmed w quiet c.in_ok-quiet.ensures o u (from_cases w o u need))
    (order_is c.args.view.now quiet _ c.in_ok-explored.explored.found.items c.in_ok-explored.explored.numbers c.in_ok-explored.explored.graph c.in_ok-order.order.items
    c.requires c.in_ok-first.ensures c.in_ok-explored.ensures c.in_ok-order.ensures)

use Rattle.fact_cache.proofs.OrderLemmas.{order-none, order-some}
use Rattle.fact_cache.proofs.order.is_in_order.Goals as goal

pub returns-in-None : goal.returns-in-None
returns-in-None c = (λ f. cc, λ e. absurd (order-none c.args.count c.args.rows.now c.in-None.ensures e))

pub returns-in-Some : goal.returns-in-Some
returns-in-Some c = order-some c.args.count c.in-Some.last c.args.rows.now c.in-Some.ensures

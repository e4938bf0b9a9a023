use Rattle.std.proofs.Common.{◌<◌, length, arith, rules}
use Rattle.action_graph.specs.Work.{IsNumbered}
use Rattle.action_graph.proofs.ReadyLemmas.{table_marked}
use Rattle.action_graph.proofs.done.mark.Goals as goal

pub returns-clause-table : goal.returns-clause-table
returns-clause-table c =
    let numbered : IsNumbered c.args.node = c.is_numbered.ensures.0 (search (rules, c.if-not-is_numbered.false)) in
    let within : c.place-at.result < length c.args.flags.now.items = omega (arith, c.if-at-height.false, c.height.ensures) in
    λ nodes is. table_marked nodes c.args.flags.now.items c.args.node c.place-at.result numbered c.place-at.ensures within is

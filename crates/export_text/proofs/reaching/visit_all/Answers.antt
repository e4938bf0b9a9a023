use Rattle.export_text.specs.Searching.{has}
use Rattle.export_text.proofs.SearchLaws.{none_visited, visited_more}
use Rattle.export_text.proofs.reaching.visit_all.Goals as goal

pub loop-k-init : goal.loop-k-init
loop-k-init c = none_visited c.args.ids.now (has c.args.met.now) c.args.list.now.items

pub loop-k-preserved : goal.loop-k-preserved
loop-k-preserved c =
    visited_more c.args.ids.now c.loop-k.k (has c.args.met.now) c.args.list.now.items (has c.loop-k.met) c.loop-k.list.items c.type_listed-id.result
    (has c.visit.new.met) c.visit.new.list.items c.loop-k.invariant c.type_listed-id.ensures c.in_ok-visit.ensures

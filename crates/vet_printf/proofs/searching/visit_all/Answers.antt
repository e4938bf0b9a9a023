use Rattle.vet_printf.specs.Searching.{has}
use Rattle.vet_printf.proofs.SearchLemmas.{none_visited, visited_more}
use Rattle.vet_printf.proofs.searching.visit_all.Goals as goal

pub loop-k-init : goal.loop-k-init
loop-k-init c = none_visited c.args.ids.now (has c.args.met.now) c.args.list.now.items

pub loop-k-preserved : goal.loop-k-preserved
loop-k-preserved c =
    visited_more c.args.ids.now c.loop-k.k (has c.args.met.now) c.args.list.now.items (has c.loop-k.met) c.loop-k.list.items c.listed-at.result
    (has c.visit.new.met) c.visit.new.list.items c.loop-k.invariant c.listed-at.ensures c.in_ok-visit.ensures

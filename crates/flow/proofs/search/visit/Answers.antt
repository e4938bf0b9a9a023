use Rattle.flow.specs.Seen.{has}
use Rattle.flow.proofs.SearchLemmas.{visited_new, visited_old}
use Rattle.flow.proofs.search.visit.Goals as goal

pub returns-then-added : goal.returns-then-added
returns-then-added c =
    visited_new c.args.at c.in_ok-added.added (has c.args.seen.now) (has c.mark.new.seen) c.args.found.now.items c.push.new.found.items
    c.if-added.true c.in_ok-added.ensures.added c.in_ok-added.ensures.marked c.in_ok-push.ensures

pub returns : goal.returns
returns c = visited_old c.args.at c.in_ok-added.added (has c.args.seen.now) (has c.mark.new.seen) c.args.found.now.items c.if-added.false c.in_ok-added.ensures.added c.in_ok-added.ensures.marked

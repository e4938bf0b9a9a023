use Rattle.std.proofs.Common.{◌≡◌, ◌∙◌, List, ℕ, length, subst, arith}
use Rattle.std.specs.List.{Contains}
use Rattle.least.specs.Work.{IsQueued}
use Rattle.least.proofs.WorkLemmas.{all_wait}
use Rattle.least.proofs.queue.wait_all.Goals as goal

pub wait_too-requires-clause-within : goal.wait_too-requires-clause-within
wait_too-requires-clause-within c i w = let lt = c.requires.first i w in let size = c.requires.marks in omega arith

pub wait_too-requires-2-clause-within : goal.wait_too-requires-2-clause-within
wait_too-requires-2-clause-within c i w =
    let lt = c.in_ok-all.ensures.items i (subst (λ l. Contains l i) c.deref.ensures.value w) in
    let size = c.requires.marks in
    let kept = c.in_ok-wait_too.ensures.size in
    omega arith

pub wait_too-requires-2-clause-marked : goal.wait_too-requires-2-clause-marked
wait_too-requires-2-clause-marked c = c.in_ok-wait_too.ensures.marked

pub returns-clause-each : goal.returns-clause-each
returns-clause-each c =
    (all_wait c.args.count c.args.first.now c.in_ok-all.all.items c.args.marks.now.items c.wait_too.new.marks.items c.wait_too-2.new.marks.items c.args.queue.now.items c.wait_too.new.queue.items c.wait_too-2.new.queue.items
    c.requires.first c.in_ok-all.ensures.each c.in_ok-all.ensures.items c.requires.items c.in_ok-wait_too.ensures
    (subst (λ (l : List ℕ). IsQueued l c.wait_too.new.marks.items c.wait_too.new.queue.items c.wait_too-2.new.marks.items c.wait_too-2.new.queue.items) c.deref.ensures.value c.in_ok-wait_too-2.ensures)).0

pub returns-clause-items : goal.returns-clause-items
returns-clause-items c =
    (all_wait c.args.count c.args.first.now c.in_ok-all.all.items c.args.marks.now.items c.wait_too.new.marks.items c.wait_too-2.new.marks.items c.args.queue.now.items c.wait_too.new.queue.items c.wait_too-2.new.queue.items
    c.requires.first c.in_ok-all.ensures.each c.in_ok-all.ensures.items c.requires.items c.in_ok-wait_too.ensures
    (subst (λ (l : List ℕ). IsQueued l c.wait_too.new.marks.items c.wait_too.new.queue.items c.wait_too-2.new.marks.items c.wait_too-2.new.queue.items) c.deref.ensures.value c.in_ok-wait_too-2.ensures)).1

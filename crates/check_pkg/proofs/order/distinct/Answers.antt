use Rattle.std.proofs.Common.{List, arith, subst, ◌↔◌}
use Rattle.std.specs.List.{Contains}
use Rattle.std.proofs.lemmas.List.{take_all}
use Rattle.check_pkg.specs.declared.refusal.Refusal.{Refusal}
use Rattle.check_pkg.proofs.ListLemmas.{none_distinct, distinct_more}
use Rattle.check_pkg.proofs.order.distinct.Goals as goal

pub loop-refusal-init : goal.loop-refusal-init
loop-refusal-init c = none_distinct c.args.sorted.now c.new-list.result.items c.new-list.ensures.items

pub add-requires : goal.add-requires
add-requires c = λ last there. c.loop-refusal.invariant.last last there c.loop-refusal.refusal-index _ (omega arith) c.loop-refusal-test.true

pub loop-refusal-preserved : goal.loop-refusal-preserved
loop-refusal-preserved c =
    distinct_more c.args.sorted.now c.loop-refusal.list.items c.add.new.list.items c.loop-refusal.refusal-index _ c.requires c.loop-refusal-test.true
    c.in_ok-add.ensures c.loop-refusal.invariant

pub returns-clause-same : goal.returns-clause-same
returns-clause-same c = λ x.
    subst (λ (front : List Refusal). Contains c.loop-refusal.list.items x ↔ Contains front x)
    (take_all c.loop-refusal.refusal-index c.args.sorted.now c.loop-refusal-test.false) (c.loop-refusal.invariant.same x)

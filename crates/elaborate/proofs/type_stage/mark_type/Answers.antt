use Rattle.std.proofs.Common.{◌≡◌, ◌∙◌, ◌+◌, ℕ, refl, sym, subst, arith}
use Rattle.typed_marks.specs.declared.item.Stage.TheVariants as s
use Rattle.typed_marks.specs.States.{so_far}
use Rattle.unit_read.specs.Subjects.{full_of, unit_of}
use Rattle.elaborate.specs.Covering.{IsNodeOf, AreStagesMarked, AreStagesOfNodes}
use Rattle.elaborate.proofs.WalkLemmas.{stages_still, ended_as}
use Rattle.elaborate.proofs.CoverLemmas.{ended_well, rests_still, next_stage}
use Rattle.elaborate.proofs.type_stage.mark_type.Goals as goal

pub mark_silent-requires-clause-item : goal.mark_silent-requires-clause-item
mark_silent-requires-clause-item g c = c.requires.node s.Under

pub mark_silent-requires-clause-quiet : goal.mark_silent-requires-clause-quiet
mark_silent-requires-clause-quiet g c = c.requires.flags c.args.node (sym c.flag.ensures ∙ c.if-flag.true)

pub returns-then-flag-clause-ended : goal.returns-then-flag-clause-ended
returns-then-flag-clause-ended g c =
    let work = c.args.work.now in
    let next = c.mark_silent.new.work in
    let made = c.in_ok-mark_silent.ensures in
    ended_well g.R.Rules.rule (full_of work.subject.now) next.state c.args.walk.now (AreStagesMarked c.args.block c.args.node 6)
    (rests_still (full_of work.subject.now) work.state next.state c.args.walk.now made.went.goes.keeps c.requires.rests)
    (next_stage c.args.block c.args.node 5 (so_far next.state) s.Under refl
    (stages_still c.args.block c.args.node 5 (so_far work.state) (so_far next.state) made.went.goes.keeps c.requires.marked) made.marked)

pub mark_nodes-requires-clause-nodes : goal.mark_nodes-requires-clause-nodes
mark_nodes-requires-clause-nodes g c = λ n low high.
    let same : c.args.node ≡ n = omega (arith, low, high) in
    subst (λ (k : ℕ). IsNodeOf (unit_of c.args.work.now.subject.now) c.args.block k) same c.requires.node

pub mark_nodes-requires-clause-marked : goal.mark_nodes-requires-clause-marked
mark_nodes-requires-clause-marked g c = λ n low high.
    let same : c.args.node ≡ n = omega (arith, low, high) in
    subst (λ (k : ℕ). AreStagesMarked c.args.block k 5 (so_far c.args.work.now.state)) same c.requires.marked

pub returns-clause-ended : goal.returns-clause-ended
returns-clause-ended g c =
    let next = c.mark_nodes.new in
    let node = c.args.node in
    ended_as g.R.Rules.rule (full_of c.args.work.now.subject.now) next.work.state next.walk
    (AreStagesOfNodes c.args.block node (node + 1) 6) (AreStagesMarked c.args.block node 6) c.in_ok-circle.circle
    (λ none all. all node (omega arith) (omega arith)) c.in_ok-circle.ensures.ended

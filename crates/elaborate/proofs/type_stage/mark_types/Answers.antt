use Rattle.std.proofs.Common.{arith}
use Rattle.typed_marks.specs.States.{so_far}
use Rattle.unit_read.specs.Subjects.{full_of, unit_of}
use Rattle.elaborate.specs.Covering.{AreStagesMarked, AreStagesOfNodes}
use Rattle.elaborate.proofs.WalkLemmas.{went_itself, went_then, stages_still, staged_still}
use Rattle.elaborate.proofs.CoverLemmas.{rest_at, rest_from, node_at, flags_at, early, ended_well, next_staged, staged_to, none_staged}
use Rattle.elaborate.proofs.type_stage.mark_types.Goals as goal

pub loop-node-init : goal.loop-node-init
loop-node-init g c =
    let work = c.args.work.now in
    record {
      went = went_itself g.R.Rules.rule work.subject.now work.state c.requires.work;
      rests = c.requires.rests;
      marked = none_staged c.args.block c.args.low 6 (so_far work.state);
    }

pub mark_type-requires-clause-work : goal.mark_type-requires-clause-work
mark_type-requires-clause-work g c = c.loop-node.invariant.went.work

pub mark_type-requires-clause-node : goal.mark_type-requires-clause-node
mark_type-requires-clause-node g c =
    node_at (unit_of c.args.work.now.subject.now) (unit_of c.loop-node.work.subject.now) c.args.block c.loop-node.node c.loop-node.invariant.went.unit
    (c.requires.nodes c.loop-node.node (omega arith) (omega arith))

pub mark_type-requires-clause-marked : goal.mark_type-requires-clause-marked
mark_type-requires-clause-marked g c =
    stages_still c.args.block c.loop-node.node 5 (so_far c.args.work.now.state) (so_far c.loop-node.work.state) c.loop-node.invariant.went.goes.keeps
    (c.requires.marked c.loop-node.node (omega arith) (omega arith))

pub mark_type-requires-clause-flags : goal.mark_type-requires-clause-flags
mark_type-requires-clause-flags g c =
    flags_at g.R.Rules.rule (unit_of c.args.work.now.subject.now) (unit_of c.loop-node.work.subject.now) c.args.block c.args.flags.now c.loop-node.invariant.went.unit c.requires.flags

pub mark_type-requires-clause-rests : goal.mark_type-requires-clause-rests
mark_type-requires-clause-rests g c =
    rest_at (full_of c.args.work.now.subject.now) (full_of c.loop-node.work.subject.now) c.loop-node.work.state c.loop-node.walk c.loop-node.invariant.went.full c.loop-node.invariant.rests

pub loop-node-preserved : goal.loop-node-preserved
loop-node-preserved g c =
    let rule = g.R.Rules.rule in
    let before = c.args.work.now in
    let now = c.loop-node.work in
    let next = c.mark_type.new.work in
    let was = c.loop-node.invariant in
    let made = c.in_ok-circle.ensures in
    record {
      went = went_then rule before.subject.now now.subject.now next.subject.now before.state now.state next.state was.went made.went;
      rests = rest_from (full_of before.subject.now) (full_of now.subject.now) next.state c.mark_type.new.walk was.went.full (made.ended.rests c.in_default.is);
      marked = next_staged c.args.block c.args.low c.loop-node.node 6 (so_far next.state)
          (staged_still c.args.block c.args.low c.loop-node.node 6 (so_far now.state) (so_far next.state) made.went.goes.keeps was.marked) (made.ended.marked c.in_default.is);
    }

pub returns-in-Some-clause-went : goal.returns-in-Some-clause-went
returns-in-Some-clause-went g c =
    let before = c.args.work.now in
    let now = c.loop-node.work in
    let next = c.mark_type.new.work in
    went_then g.R.Rules.rule before.subject.now now.subject.now next.subject.now before.state now.state next.state c.loop-node.invariant.went c.in_ok-circle.ensures.went

pub returns-in-Some-clause-ended : goal.returns-in-Some-clause-ended
returns-in-Some-clause-ended g c =
    early g.R.Rules.rule (full_of c.args.work.now.subject.now) (full_of c.loop-node.work.subject.now) c.mark_type.new.work.state c.mark_type.new.walk
    (AreStagesMarked c.args.block c.loop-node.node 6) (AreStagesOfNodes c.args.block c.args.low c.args.end 6) c.in_ok-circle.circle c.in-Some.other c.loop-node.invariant.went.full c.in-Some.is c.in_ok-circle.ensures.ended

pub returns-clause-ended : goal.returns-clause-ended
returns-clause-ended g c =
    let now = c.loop-node.work in
    ended_well g.R.Rules.rule (full_of c.args.work.now.subject.now) now.state c.loop-node.walk (AreStagesOfNodes c.args.block c.args.low c.args.end 6) c.loop-node.invariant.rests
    (staged_to c.args.block c.args.low c.loop-node.node c.args.end 6 (so_far now.state) (omega arith) c.loop-node.invariant.marked)

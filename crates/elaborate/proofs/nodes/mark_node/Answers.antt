use Rattle.std.proofs.Common.{arith}
use Rattle.typed_marks.specs.States.{so_far}
use Rattle.unit_read.specs.Subjects.{full_of, unit_of}
use Rattle.rule_words.specs.Asking.{item}
use Rattle.elaborate.specs.Covering.{AreStagesMarked}
use Rattle.mark_walk.specs.Asks.{IsMarked}
use Rattle.elaborate.proofs.WalkLemmas.{went_itself, went_then, stages_still}
use Rattle.elaborate.proofs.CoverLemmas.{rest_at, rest_from, item_at, early, ended_well, next_stage, stages_to}
use Rattle.elaborate.proofs.nodes.mark_node.Goals as goal

pub loop-number-init : goal.loop-number-init
loop-number-init g c =
    let work = c.args.work.now in
    record {
      went = went_itself g.R.Rules.rule work.subject.now work.state c.requires.work;
      rests = c.requires.rests;
      marked = c.requires.marked;
    }

pub mark_one-requires-clause-work : goal.mark_one-requires-clause-work
mark_one-requires-clause-work g c = c.loop-number.invariant.went.work

pub mark_one-requires-clause-item : goal.mark_one-requires-clause-item
mark_one-requires-clause-item g c =
    item_at (unit_of c.args.work.now.subject.now) (unit_of c.loop-number.work.subject.now) (item c.stage_of.result c.args.block c.args.node) c.loop-number.invariant.went.unit (c.requires.node c.stage_of.result)

pub mark_one-requires-clause-rests : goal.mark_one-requires-clause-rests
mark_one-requires-clause-rests g c =
    rest_at (full_of c.args.work.now.subject.now) (full_of c.loop-number.work.subject.now) c.loop-number.work.state c.loop-number.walk c.loop-number.invariant.went.full c.loop-number.invariant.rests

pub loop-number-preserved : goal.loop-number-preserved
loop-number-preserved g c =
    let rule = g.R.Rules.rule in
    let before = c.args.work.now in
    let now = c.loop-number.work in
    let next = c.mark_one.new.work in
    let was = c.loop-number.invariant in
    let made = c.in_ok-circle.ensures in
    record {
      went = went_then rule before.subject.now now.subject.now next.subject.now before.state now.state next.state was.went made.went;
      rests = rest_from (full_of before.subject.now) (full_of now.subject.now) next.state c.mark_one.new.walk was.went.full (made.ended.rests c.in_default.is);
      marked = next_stage c.args.block c.args.node c.loop-number.number (so_far next.state) c.stage_of.result c.stage_of.ensures
          (stages_still c.args.block c.args.node c.loop-number.number (so_far now.state) (so_far next.state) made.went.goes.keeps was.marked) (made.ended.marked c.in_default.is);
    }

pub returns-in-Some-clause-went : goal.returns-in-Some-clause-went
returns-in-Some-clause-went g c =
    let before = c.args.work.now in
    let now = c.loop-number.work in
    let next = c.mark_one.new.work in
    went_then g.R.Rules.rule before.subject.now now.subject.now next.subject.now before.state now.state next.state c.loop-number.invariant.went c.in_ok-circle.ensures.went

pub returns-in-Some-clause-ended : goal.returns-in-Some-clause-ended
returns-in-Some-clause-ended g c =
    early g.R.Rules.rule (full_of c.args.work.now.subject.now) (full_of c.loop-number.work.subject.now) c.mark_one.new.work.state c.mark_one.new.walk
    (λ marks. IsMarked marks (item c.stage_of.result c.args.block c.args.node)) (AreStagesMarked c.args.block c.args.node c.args.stages) c.in_ok-circle.circle c.in-Some.other c.loop-number.invariant.went.full c.in-Some.is c.in_ok-circle.ensures.ended

pub returns-clause-ended : goal.returns-clause-ended
returns-clause-ended g c =
    let now = c.loop-number.work in
    ended_well g.R.Rules.rule (full_of c.args.work.now.subject.now) now.state c.loop-number.walk (AreStagesMarked c.args.block c.args.node c.args.stages) c.loop-number.invariant.rests
    (stages_to c.args.block c.args.node c.loop-number.number c.args.stages (so_far now.state) (omega arith) c.loop-number.invariant.marked)

use Rattle.std.proofs.Common.{refl}
use Rattle.unit_read.specs.Subjects.{full_of}
use Rattle.elaborate.specs.Covering.{IsAnything}
use Rattle.elaborate.proofs.WalkLemmas.{went_itself, went_then}
use Rattle.elaborate.proofs.CoverLemmas.{rest_at, rest_from, early, ended_well}
use Rattle.elaborate.proofs.ahead.mark_ahead.Goals as goal

pub loop-i-init : goal.loop-i-init
loop-i-init g c =
    let work = c.args.work.now in
    record {
      went = went_itself g.R.Rules.rule work.subject.now work.state c.requires.work;
      rests = c.requires.rests;
    }

pub mark_stretch-requires-clause-work : goal.mark_stretch-requires-clause-work
mark_stretch-requires-clause-work g c = c.loop-i.invariant.went.work

pub mark_stretch-requires-clause-rests : goal.mark_stretch-requires-clause-rests
mark_stretch-requires-clause-rests g c =
    rest_at (full_of c.args.work.now.subject.now) (full_of c.loop-i.work.subject.now) c.loop-i.work.state c.loop-i.walk c.loop-i.invariant.went.full c.loop-i.invariant.rests

pub loop-i-preserved : goal.loop-i-preserved
loop-i-preserved g c =
    let before = c.args.work.now in
    let now = c.loop-i.work in
    let next = c.mark_stretch.new.work in
    let was = c.loop-i.invariant in
    let made = c.in_ok-circle.ensures in
    record {
      went = went_then g.R.Rules.rule before.subject.now now.subject.now next.subject.now before.state now.state next.state was.went made.went;
      rests = rest_from (full_of before.subject.now) (full_of now.subject.now) next.state c.mark_stretch.new.walk was.went.full (made.ended.rests c.in_default.is);
    }

pub returns-in-Some-clause-went : goal.returns-in-Some-clause-went
returns-in-Some-clause-went g c =
    let before = c.args.work.now in
    let now = c.loop-i.work in
    let next = c.mark_stretch.new.work in
    went_then g.R.Rules.rule before.subject.now now.subject.now next.subject.now before.state now.state next.state c.loop-i.invariant.went c.in_ok-circle.ensures.went

pub returns-in-Some-clause-ended : goal.returns-in-Some-clause-ended
returns-in-Some-clause-ended g c =
    early g.R.Rules.rule (full_of c.args.work.now.subject.now) (full_of c.loop-i.work.subject.now) c.mark_stretch.new.work.state c.mark_stretch.new.walk
    IsAnything IsAnything c.in_ok-circle.circle c.in-Some.other c.loop-i.invariant.went.full c.in-Some.is c.in_ok-circle.ensures.ended

pub returns-clause-ended : goal.returns-clause-ended
returns-clause-ended g c =
    ended_well g.R.Rules.rule (full_of c.args.work.now.subject.now) c.loop-i.work.state c.loop-i.walk IsAnything c.loop-i.invariant.rests tt

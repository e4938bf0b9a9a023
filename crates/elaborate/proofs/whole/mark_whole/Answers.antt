use Rattle.std.proofs.Common.{◌≡◌, ◌∙◌, refl, ap, slice_get}
use Rattle.unit_read.specs.Units.{Unit}
use Rattle.unit_read.specs.Subjects.{full_of}
use Rattle.elaborate.specs.Walks.{blocks_of}
use Rattle.elaborate.specs.Covering.{AreStagesOfNodes, AreNodesMarked}
use Rattle.elaborate.proofs.WalkLemmas.{went_then, ended_for}
use Rattle.elaborate.proofs.CoverLemmas.{early, rest_at}
use Rattle.elaborate.proofs.whole.mark_whole.Goals as goal

pub mark_declared-requires-clause-work : goal.mark_declared-requires-clause-work
mark_declared-requires-clause-work g c = c.in_ok-objects.ensures.went.work

pub mark_declared-requires-clause-block : goal.mark_declared-requires-clause-block
mark_declared-requires-clause-block g c = ap (λ (u : Unit). slice_get (blocks_of u) c.args.number) c.in_ok-objects.ensures.went.unit ∙ c.requires.block

pub mark_declared-requires-clause-early : goal.mark_declared-requires-clause-early
mark_declared-requires-clause-early g c = c.in_ok-objects.ensures.ended.marked c.in_default.is

pub mark_declared-requires-clause-rests : goal.mark_declared-requires-clause-rests
mark_declared-requires-clause-rests g c =
    let now = c.mark_objects.new in
    rest_at (full_of c.args.work.now.subject.now) (full_of now.work.subject.now) now.work.state now.walk c.in_ok-objects.ensures.went.full (c.in_ok-objects.ensures.ended.rests c.in_default.is)

pub returns-in-Some-clause-ended : goal.returns-in-Some-clause-ended
returns-in-Some-clause-ended g c =
    let now = c.mark_objects.new in
    early g.R.Rules.rule (full_of c.args.work.now.subject.now) (full_of c.args.work.now.subject.now) now.work.state now.walk (AreStagesOfNodes c.args.number c.args.block.low c.args.block.end 5) (AreNodesMarked c.args.number c.args.block.low c.args.block.end)
    c.in_ok-objects.objects c.in-Some.other refl c.in-Some.is c.in_ok-objects.ensures.ended

pub returns-clause-went : goal.returns-clause-went
returns-clause-went g c =
    let before = c.args.work.now in
    let now = c.mark_objects.new.work in
    let next = c.mark_declared.new.work in
    went_then g.R.Rules.rule before.subject.now now.subject.now next.subject.now before.state now.state next.state c.in_ok-objects.ensures.went c.in_ok-circle.ensures.went

pub returns-clause-ended : goal.returns-clause-ended
returns-clause-ended g c =
    let next = c.mark_declared.new in
    ended_for g.R.Rules.rule (full_of c.args.work.now.subject.now) (full_of c.mark_objects.new.work.subject.now) next.work.state next.walk (AreNodesMarked c.args.number c.args.block.low c.args.block.end)
    c.in_ok-circle.circle c.in_ok-objects.ensures.went.full c.in_ok-circle.ensures.ended

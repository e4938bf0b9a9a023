use Rattle.std.proofs.Common.{◌≡◌, ◌∙◌, refl, ap, slice_get}
use Rattle.unit_read.specs.Units.{Unit}
use Rattle.unit_read.specs.Subjects.{full_of}
use Rattle.elaborate.specs.Walks.{blocks_of}
use Rattle.elaborate.specs.Covering.{AreStagesOfNodes, AreNodesMarked}
use Rattle.elaborate.proofs.WalkLemmas.{went_then, ended_for}
use Rattle.elaborate.proofs.CoverLemmas.{early, rest_at}
use Rattle.elaborate.proofs.whole.mark_block.Goals as goal

pub mark_whole-requires-clause-work : goal.mark_whole-requires-clause-work
mark_whole-requires-clause-work g c = c.in_ok-early.ensures.went.work

pub mark_whole-requires-clause-block : goal.mark_whole-requires-clause-block
mark_whole-requires-clause-block g c = ap (λ (u : Unit). slice_get (blocks_of u) c.args.number) c.in_ok-early.ensures.went.unit ∙ c.requires.block

pub mark_whole-requires-clause-early : goal.mark_whole-requires-clause-early
mark_whole-requires-clause-early g c = c.in_ok-early.ensures.ended.marked c.in_default.is

pub mark_whole-requires-clause-rests : goal.mark_whole-requires-clause-rests
mark_whole-requires-clause-rests g c =
    let now = c.mark_early.new in
    rest_at (full_of c.args.work.now.subject.now) (full_of now.work.subject.now) now.work.state now.walk c.in_ok-early.ensures.went.full (c.in_ok-early.ensures.ended.rests c.in_default.is)

pub returns-in-Some-clause-ended : goal.returns-in-Some-clause-ended
returns-in-Some-clause-ended g c =
    let now = c.mark_early.new in
    early g.R.Rules.rule (full_of c.args.work.now.subject.now) (full_of c.args.work.now.subject.now) now.work.state now.walk (AreStagesOfNodes c.args.number c.args.block.low c.args.block.end 4) (AreNodesMarked c.args.number c.args.block.low c.args.block.end)
    c.in_ok-early.early c.in-Some.other refl c.in-Some.is c.in_ok-early.ensures.ended

pub returns-clause-went : goal.returns-clause-went
returns-clause-went g c =
    let before = c.args.work.now in
    let now = c.mark_early.new.work in
    let next = c.mark_whole.new.work in
    went_then g.R.Rules.rule before.subject.now now.subject.now next.subject.now before.state now.state next.state c.in_ok-early.ensures.went c.in_ok-circle.ensures.went

pub returns-clause-ended : goal.returns-clause-ended
returns-clause-ended g c =
    let next = c.mark_whole.new in
    ended_for g.R.Rules.rule (full_of c.args.work.now.subject.now) (full_of c.mark_early.new.work.subject.now) next.work.state next.walk (AreNodesMarked c.args.number c.args.block.low c.args.block.end)
    c.in_ok-circle.circle c.in_ok-early.ensures.went.full c.in_ok-circle.ensures.ended

use Rattle.std.proofs.Common.{◌≡◌, refl, length, subst}
use Rattle.mark_walk.specs.Asks.{IsMarked}
use Rattle.typed_marks.specs.declared.item.Item.{Item}
use Rattle.unit_read.specs.Units.{Unit}
use Rattle.unit_read.specs.Subjects.{full_of}
use Rattle.elaborate.specs.Walks.{blocks_of}
use Rattle.elaborate.specs.Covering.{Ended, IsAnything, AreBlocksMarked}
use Rattle.elaborate.proofs.WalkLemmas.{went_then}
use Rattle.elaborate.proofs.CoverLemmas.{early, rest_at}
use Rattle.elaborate.proofs.whole.mark_in_turn.Goals as goal

pub mark_all-requires-clause-work : goal.mark_all-requires-clause-work
mark_all-requires-clause-work g c = c.in_ok-early.ensures.went.work

pub mark_all-requires-clause-rests : goal.mark_all-requires-clause-rests
mark_all-requires-clause-rests g c =
    let now = c.mark_ahead.new in
    rest_at (full_of c.args.work.now.subject.now) (full_of now.work.subject.now) now.work.state now.walk c.in_ok-early.ensures.went.full (c.in_ok-early.ensures.ended.rests c.in_default.is)

pub returns-in-Some-clause-ended : goal.returns-in-Some-clause-ended
returns-in-Some-clause-ended g c =
    let now = c.mark_ahead.new in
    let u = full_of c.args.work.now.subject.now in
    early g.R.Rules.rule u u now.work.state now.walk IsAnything (AreBlocksMarked u (length (blocks_of u))) c.in_ok-early.early c.in-Some.other refl c.in-Some.is c.in_ok-early.ensures.ended

pub returns-clause-went : goal.returns-clause-went
returns-clause-went g c =
    let before = c.args.work.now in
    let now = c.mark_ahead.new.work in
    let next = c.mark_all.new.work in
    went_then g.R.Rules.rule before.subject.now now.subject.now next.subject.now before.state now.state next.state c.in_ok-early.ensures.went c.in_ok-circle.ensures.went

pub returns-clause-ended : goal.returns-clause-ended
returns-clause-ended g c =
    let next = c.mark_all.new in
    subst (λ (u : Unit). Ended g.R.Rules.rule u next.work.state next.walk (AreBlocksMarked u (length (blocks_of u))) c.in_ok-circle.circle) c.in_ok-early.ensures.went.full c.in_ok-circle.ensures.ended

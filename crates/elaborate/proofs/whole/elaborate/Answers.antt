use Rattle.std.proofs.Common.{None, Some, subst}
use Rattle.typed_marks.specs.States.{so_far}
use Rattle.unit_read.specs.Subjects.{full_of}
use Rattle.elaborate.specs.Covering.{IsCircleAt}
use Rattle.elaborate.proofs.CoverLemmas.{sound_first, annotated, in_circle, scene_for}
use Rattle.elaborate.proofs.whole.elaborate.Goals as goal

pub returns-in-Some : goal.returns-in-Some
returns-in-Some g c =
    let rule = g.R.Rules.rule in
    let u = c.args.u.now in
    let s = c.in_ok-state.state in
    let next = c.mark_in_turn.new.work in
    let made = c.in_ok-circle.ensures in
    let sound = sound_first rule (full_of u) s c.in_ok-state.ensures.work.blocks c.in_ok-state.ensures.unmarked in (
      scene_for u next.subject.now next.state made.went.subject made.went.work.scene,
      in_circle rule u next.subject.now s next.state made.went sound c.in-Some.item (subst (IsCircleAt rule (full_of u) next.state) c.in-Some.is made.ended.waits),
    )

pub returns : goal.returns
returns g c =
    let rule = g.R.Rules.rule in
    let u = c.args.u.now in
    let s = c.in_ok-state.state in
    let next = c.mark_in_turn.new.work in
    let made = c.in_ok-circle.ensures in
    let sound = sound_first rule (full_of u) s c.in_ok-state.ensures.work.blocks c.in_ok-state.ensures.unmarked in (
      scene_for u next.subject.now next.state made.went.subject made.went.work.scene,
      annotated rule u next.subject.now s next.state made.went sound (made.ended.marked c.in-None.is),
    )

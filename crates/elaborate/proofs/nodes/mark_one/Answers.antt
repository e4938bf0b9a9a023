use Rattle.std.proofs.Common.{subst}
use Rattle.mark_walk.specs.Asks.{Awaits, IsMarked}
use Rattle.mark_walk.specs.Waiting.{Ends}
use Rattle.mark_walk.specs.declared.walk.Walked.{Walked}
use Rattle.mark_walk.proofs.WaitLemmas.{not_marked}
use Rattle.typed_marks.specs.States.{so_far}
use Rattle.unit_read.specs.Subjects.{full_of}
use Rattle.typed_marks.specs.declared.item.Item.{Item}
use Rattle.type_answers.specs.Answering.{says_of, pends_of}
use Rattle.elaborate.specs.Walks.{item_rule}
use Rattle.elaborate.proofs.WalkLemmas.{went_itself, went_by}
use Rattle.elaborate.proofs.CoverLemmas.{ended_well, rests_still, circle_of_item}
use Rattle.elaborate.proofs.nodes.mark_one.Goals as goal

pub is_marked-requires : goal.is_marked-requires
is_marked-requires g c = c.requires.work.scene.state

pub is_quiet-requires : goal.is_quiet-requires
is_quiet-requires g c = c.requires.work.scene.read

pub mark_quiet-requires-clause-unmarked : goal.mark_quiet-requires-clause-unmarked
mark_quiet-requires-clause-unmarked g c =
    not_marked (so_far c.args.work.now.state) c.args.item c.is_marked.result c.if-is_marked.false c.is_marked.ensures.1

pub mark_quiet-requires-clause-quiet : goal.mark_quiet-requires-clause-quiet
mark_quiet-requires-clause-quiet g c = c.is_quiet.ensures.none c.if-is_quiet.true

pub returns-then-is_marked-clause-went : goal.returns-then-is_marked-clause-went
returns-then-is_marked-clause-went g c = went_itself g.R.Rules.rule c.args.work.now.subject.now c.args.work.now.state c.requires.work

pub returns-then-is_marked-clause-ended : goal.returns-then-is_marked-clause-ended
returns-then-is_marked-clause-ended g c =
    ended_well g.R.Rules.rule (full_of c.args.work.now.subject.now) c.args.work.now.state c.args.walk.now (λ marks. IsMarked marks c.args.item) c.requires.rests
    (c.is_marked.ensures.0 c.if-is_marked.true)

pub returns-then-is_quiet-clause-ended : goal.returns-then-is_quiet-clause-ended
returns-then-is_quiet-clause-ended g c =
    let next = c.mark_quiet.new.work in
    let made = c.in_ok-mark_quiet.ensures in
    ended_well g.R.Rules.rule (full_of c.args.work.now.subject.now) next.state c.args.walk.now (λ marks. IsMarked marks c.args.item)
    (rests_still (full_of c.args.work.now.subject.now) c.args.work.now.state next.state c.args.walk.now made.went.goes.keeps c.requires.rests) made.marked

pub returns-in-Marked-clause-went : goal.returns-in-Marked-clause-went
returns-in-Marked-clause-went g c =
    let made = c.in_ok-walked.ensures in
    went_by g.R.Rules.rule c.args.work.now.subject.now c.mark.new.kit.subject.now c.args.work.now.state c.mark.new.kit.state made.state made.subject made.goes

pub returns-in-Circle-clause-went : goal.returns-in-Circle-clause-went
returns-in-Circle-clause-went g c =
    let made = c.in_ok-walked.ensures in
    went_by g.R.Rules.rule c.args.work.now.subject.now c.mark.new.kit.subject.now c.args.work.now.state c.mark.new.kit.state made.state made.subject made.goes

pub returns-in-Circle-clause-ended : goal.returns-in-Circle-clause-ended
returns-in-Circle-clause-ended g c =
    let rule = g.R.Rules.rule in
    let u = full_of c.args.work.now.subject.now in
    let ends = subst (λ (w : Walked Item). Ends (λ x. Awaits (says_of u) (pends_of u) (so_far c.mark.new.kit.state) (item_rule rule u x)) (so_far c.mark.new.kit.state) c.args.item w) c.in-Circle.is
    c.in_ok-walked.ensures.ends in
    circle_of_item rule u c.mark.new.kit.state c.mark.new.walk (λ marks. IsMarked marks c.args.item) c.args.item c.in-Circle.item c.requires.item ends

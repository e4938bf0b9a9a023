use Rattle.mark_walk.proofs.WaitLemmas.{not_marked}
use Rattle.typed_marks.specs.States.{so_far}
use Rattle.elaborate.proofs.WalkLemmas.{went_itself}
use Rattle.elaborate.proofs.type_stage.mark_silent.Goals as goal

pub is_marked-requires : goal.is_marked-requires
is_marked-requires g c = c.requires.work.scene.state

pub mark_quiet-requires-clause-unmarked : goal.mark_quiet-requires-clause-unmarked
mark_quiet-requires-clause-unmarked g c =
    not_marked (so_far c.args.work.now.state) c.args.item c.is_marked.result c.if-is_marked.false c.is_marked.ensures.1

pub returns-then-is_marked-clause-went : goal.returns-then-is_marked-clause-went
returns-then-is_marked-clause-went g c = went_itself g.R.Rules.rule c.args.work.now.subject.now c.args.work.now.state c.requires.work

pub returns-then-is_marked-clause-marked : goal.returns-then-is_marked-clause-marked
returns-then-is_marked-clause-marked g c = c.is_marked.ensures.0 c.if-is_marked.true

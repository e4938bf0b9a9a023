use Rattle.typed_marks.specs.Meanings.{Quiet}
use Rattle.elaborate.proofs.CoverLemmas.{went_quiet}
use Rattle.elaborate.proofs.nodes.mark_quiet.Goals as goal

pub returns-clause-went : goal.returns-clause-went
returns-clause-went g c =
    let made = c.in_ok-leave.ensures in
    went_quiet g.R.Rules.rule c.args.work.now.subject.now c.args.work.now.state c.leave.new.s c.args.item c.requires.item c.requires.quiet made.work made.adds

pub returns-clause-marked : goal.returns-clause-marked
returns-clause-marked g c = (Quiet, c.in_ok-leave.ensures.adds.new)

use Rattle.elaborate.proofs.StepLemmas.{steps_as, steps_by}
use Rattle.elaborate.proofs.work.step.Goals as goal

pub returns-in_ok-waits-clause-steps : goal.returns-in_ok-waits-clause-steps
returns-in_ok-waits-clause-steps g c =
    steps_by g.R.Rules.rule c.args.u.now c.args.s.now c.declare_by.new.s c.args.item c.in_ok-waits.waits c.requires.item c.requires.work c.in_ok-waits.ensures.steps

pub returns-in_ok-waits-2-clause-steps : goal.returns-in_ok-waits-2-clause-steps
returns-in_ok-waits-2-clause-steps g c =
    steps_as g.R.Rules.rule c.args.u.now c.args.s.now c.judge_by.new.s c.args.item c.in_ok-waits-2.waits c.requires.item c.requires.work c.in_ok-waits-2.ensures.steps

use Rattle.tree_runs.proofs.GrownLaws.{grown-not}
use Rattle.top_calls.proofs.desk.Desk.apply.Goals as goal

pub returns-in_ok-answer-in-With-clause-serves : goal.returns-in_ok-answer-in-With-clause-serves
returns-in_ok-answer-in-With-clause-serves g c = rw (c.in-Put.is, c.in-With.is) (c.in_ok-answer-in-With.ensures.serves c.args.options.now _)

pub returns-in-At-fields-clause-serves : goal.returns-in-At-fields-clause-serves
returns-in-At-fields-clause-serves g c = rw (c.in-Del.is, c.in-At-fields.is) (c.del.ensures.serves c.args.options.now _)

pub returns-in_ok-answer-in-At-fields-2-clause-serves : goal.returns-in_ok-answer-in-At-fields-2-clause-serves
returns-in_ok-answer-in-At-fields-2-clause-serves g c = rw (c.in-Show.is, c.in-At-fields-2.is) (c.in_ok-answer-in-At-fields-2.ensures.serves c.args.options.now _)

pub returns-in_err-answer-in-With-clause-least : goal.returns-in_err-answer-in-With-clause-least
returns-in_err-answer-in-With-clause-least g c = grown-not g.W.Kit.loads g.W.Kit.runs c.args.kits.now

pub returns-in_err-answer-in-At-fields-2-clause-least : goal.returns-in_err-answer-in-At-fields-2-clause-least
returns-in_err-answer-in-At-fields-2-clause-least g c = grown-not g.W.Kit.loads g.W.Kit.runs c.args.kits.now

pub returns-in_err-answer-in-Stats-clause-least : goal.returns-in_err-answer-in-Stats-clause-least
returns-in_err-answer-in-Stats-clause-least g c = grown-not g.W.Kit.loads g.W.Kit.runs c.args.kits.now

pub returns-in_ok-answer-in-With-clause-least : goal.returns-in_ok-answer-in-With-clause-least
returns-in_ok-answer-in-With-clause-least g c = grown-not g.W.Kit.loads g.W.Kit.runs c.args.kits.now

pub returns-in-At-fields-clause-least : goal.returns-in-At-fields-clause-least
returns-in-At-fields-clause-least g c = grown-not g.W.Kit.loads g.W.Kit.runs c.args.kits.now

pub returns-in_ok-answer-in-At-fields-2-clause-least : goal.returns-in_ok-answer-in-At-fields-2-clause-least
returns-in_ok-answer-in-At-fields-2-clause-least g c = grown-not g.W.Kit.loads g.W.Kit.runs c.args.kits.now

pub returns-in_ok-answer-in-Stats-clause-least : goal.returns-in_ok-answer-in-Stats-clause-least
returns-in_ok-answer-in-Stats-clause-least g c = grown-not g.W.Kit.loads g.W.Kit.runs c.args.kits.now

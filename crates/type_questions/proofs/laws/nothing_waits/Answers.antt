use Rattle.type_questions.proofs.WholeLaws.{assign_whole, convert_whole, compare_whole, implement_whole, select_whole, list_whole}
use Rattle.type_questions.proofs.laws.nothing_waits.Goals as goal

pub returns-clause-assign : goal.returns-clause-assign
returns-clause-assign c = assign_whole

pub returns-clause-convert : goal.returns-clause-convert
returns-clause-convert c = convert_whole

pub returns-clause-compare : goal.returns-clause-compare
returns-clause-compare c = compare_whole

pub returns-clause-select : goal.returns-clause-select
returns-clause-select c = select_whole

pub returns-clause-list : goal.returns-clause-list
returns-clause-list c = list_whole

pub returns-clause-implement : goal.returns-clause-implement
returns-clause-implement c = implement_whole

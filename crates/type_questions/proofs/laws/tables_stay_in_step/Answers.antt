use Rattle.type_questions.proofs.StepLaws.{all_in_step, types_stay, quiet_stays, declares_stay}
use Rattle.type_questions.proofs.laws.tables_stay_in_step.Goals as goal

pub returns-clause-step : goal.returns-clause-step
returns-clause-step g c base under reads = all_in_step base under reads

pub returns-clause-types : goal.returns-clause-types
returns-clause-types g c base under reads = types_stay base under reads

pub returns-clause-quiet : goal.returns-clause-quiet
returns-clause-quiet g c base under reads = quiet_stays base under reads

pub returns-clause-declares : goal.returns-clause-declares
returns-clause-declares g c base under reads = declares_stay base under reads

use Rattle.type_questions.proofs.QuestionLaws as law
use Rattle.type_questions.proofs.laws.questions_last.Goals as goal

pub returns : goal.returns
returns g c base under reads = law.questions_last base under reads

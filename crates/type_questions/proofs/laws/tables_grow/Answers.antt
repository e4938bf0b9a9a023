use Rattle.type_questions.proofs.TableLaws.{grown_grows, declares_grows}
use Rattle.type_questions.proofs.laws.tables_grow.Goals as goal

pub returns-clause-grown : goal.returns-clause-grown
returns-clause-grown c = grown_grows

pub returns-clause-declared : goal.returns-clause-declared
returns-clause-declared c = declares_grows

use Rattle.type_answers.proofs.AnswerLemmas.{selection_found}
use Rattle.type_answers.proofs.asks.ask_selection.Goals as goal

pub returns-clause-is : goal.returns-clause-is
returns-clause-is c = selection_found c.args.u.now c.args.s.now c.args.of c.args.name.now c.args.from.now c.in_ok-found.found c.in_ok-found.ensures.told

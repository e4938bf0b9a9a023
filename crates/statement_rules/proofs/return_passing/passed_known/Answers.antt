use Rattle.std.proofs.Common.{List, subst}
use Rattle.type_model.specs.GoTypes.{GoType}
use Rattle.type_answers.specs.Coming.{ComesTo}
use Rattle.unit_read.specs.Subjects.{unit_of}
use Rattle.rule_words.specs.Good.{known_of}
use Rattle.statement_rules.specs.Returning.{passed_among}
use Rattle.statement_rules.proofs.return_passing.passed_known.Goals as goal

pub returns-clause-comes : goal.returns-clause-comes
returns-clause-comes c =
    let s = c.args.s.now in
    let u = c.args.u.now in
    subst (λ (l : List GoType). ComesTo u s (passed_among (unit_of u) (known_of s c.args.x) l) c.in_ok-step.step) c.results_of.ensures.is c.in_ok-step.ensures.comes

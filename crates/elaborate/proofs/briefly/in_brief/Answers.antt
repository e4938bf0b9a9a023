use Rattle.std.proofs.Common.{sym, subst}
use Rattle.rule_words.specs.Steps.{IsStepOf}
use Rattle.type_answers.specs.Coming.{ComesTo}
use Rattle.elaborate.proofs.BriefLemmas.{brief_passes}
use Rattle.elaborate.proofs.briefly.in_brief.Goals as goal

pub returns-in-Some-clause-comes : goal.returns-in-Some-clause-comes
returns-in-Some-clause-comes c = λ u s rule comes. subst (ComesTo u s rule) (sym c.in-Some.ensures) comes

pub returns-in-Some-clause-over : goal.returns-in-Some-clause-over
returns-in-Some-clause-over c = λ s over. subst (IsStepOf s) (sym c.in-Some.ensures) over

pub returns-in-None-clause-comes : goal.returns-in-None-clause-comes
returns-in-None-clause-comes c = λ u s rule comes. brief_passes (ComesTo u s rule) c.elsewhere.result c.args.step c.elsewhere.ensures comes

pub returns-in-None-clause-over : goal.returns-in-None-clause-over
returns-in-None-clause-over c = λ s over. brief_passes (IsStepOf s) c.elsewhere.result c.args.step c.elsewhere.ensures over

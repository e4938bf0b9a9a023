use Rattle.std.proofs.Common.{sym, subst}
use Rattle.rule_words.specs.declared.step.Step.{Step}
use Rattle.rule_words.specs.Steps.{question_in}
use Rattle.elaborate.specs.Settling.{Follows, IsAnsweredTo}
use Rattle.elaborate.proofs.WalkLemmas.{follows_told}
use Rattle.elaborate.proofs.settling.answer_one.Goals as goal

pub returns-in-Is-clause-follows : goal.returns-in-Is-clause-follows
returns-in-Is-clause-follows c =
    let u = c.args.u.now in
    let s = c.args.s.now in
    subst (λ (x : Step). Follows u s x c.go_on.result) (sym c.in-Puts.is)
    (follows_told u s c.in-Puts.asked c.in-Puts.rest c.in-Is.told c.go_on.result c.requires.scene (subst (IsAnsweredTo u s (question_in s c.in-Puts.asked)) c.in-Is.is c.in_ok-found-in-Puts.ensures).1 c.go_on.ensures.is)

use Rattle.std.proofs.Common.{cond, Some, None, option_map, sym, ap, ◌∙◌}
use Rattle.bind.specs.Answers.{unless_blank}
use Rattle.bind.proofs.answer.unless_blank.Goals as goal

pub returns-in-Some : goal.returns-in-Some
returns-in-Some c =
    c.unless.ensures ∙ (ap (λ b. cond b None (Some c.in-Some.name.now)) c.is_blank.ensures ∙ ap (λ o. unless_blank (option_map (λ n. n.now) o)) (sym c.in-Some.is))

pub returns-in-None : goal.returns-in-None
returns-in-None c = ap (λ o. unless_blank (option_map (λ n. n.now) o)) (sym c.in-None.is)

use Rattle.std.proofs.Common.{cond, Some, None, option_map, sym, ap, ◌∙◌}
use Rattle.bind.specs.Package.{unless_init}
use Rattle.bind.proofs.tops.unless_init.Goals as goal

pub returns-in-Some : goal.returns-in-Some
returns-in-Some c =
    c.unless.ensures ∙ (ap (λ b. cond b None (Some c.in-Some.name.now)) c.is_init.ensures ∙ ap (λ o. unless_init (option_map (λ n. n.now) o)) (sym c.in-Some.is))

pub returns-in-None : goal.returns-in-None
returns-in-None c = ap (λ o. unless_init (option_map (λ n. n.now) o)) (sym c.in-None.is)

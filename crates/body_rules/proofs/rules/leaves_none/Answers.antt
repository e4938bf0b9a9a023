use Rattle.std.proofs.Common.{refl}
use Rattle.body_rules.proofs.rules.leaves_none.Goals as goal

pub returns-in-Some : goal.returns-in-Some
returns-in-Some c = (λ h. absurd cc, λ none. absurd (none c.in-Some.field-0 c.in-Some.ensures.0))

pub returns-in-None : goal.returns-in-None
returns-in-None c = (λ h. c.in-None.ensures, λ none. refl)

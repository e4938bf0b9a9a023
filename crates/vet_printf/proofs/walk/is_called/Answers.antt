use Rattle.std.proofs.Common.{List, ℕ, Option, is_some, sym, ap}
use Rattle.vet_printf.proofs.walk.is_called.Goals as goal

pub returns-in-Some : goal.returns-in-Some
returns-in-Some c = ap (λ (o : Option (List ℕ × List ℕ)). is_some o) c.in-Some.ensures

pub returns-in-None : goal.returns-in-None
returns-in-None c = ap (λ (o : Option (List ℕ × List ℕ)). is_some o) c.in-None.ensures

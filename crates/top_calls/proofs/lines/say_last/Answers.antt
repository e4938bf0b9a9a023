use Rattle.std.proofs.Common.{refl}
use Rattle.top_calls.specs.Turn.{unlined}
use Rattle.top_calls.proofs.lines.say_last.Goals as goal

pub returns-in-Err-clause-says : goal.returns-in-Err-clause-says
returns-in-Err-clause-says g c = let r = c.in-Err.ensures.says in record { said = r.said; says = r.says; lines = unlined c.in-Err.cut refl r.leaves.2 r.leaves.0 }

use Rattle.check_pkg.proofs.judging.accepted.Goals as goal

pub returns-clause-nothing : goal.returns-clause-nothing
returns-clause-nothing c = λ some. absurd (some (c.is_empty.ensures.0 c.if-not-is_empty.false))

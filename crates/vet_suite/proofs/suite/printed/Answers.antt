use Rattle.vet_suite.proofs.suite.printed.Goals as goal

pub tell-requires-clause-apart : goal.tell-requires-clause-apart
tell-requires-clause-apart c = c.requires.given.apart

use Rattle.go_kit.proofs.read.verdict_of.Goals as goal

pub returns-in-Some : goal.returns-in-Some
returns-in-Some c = rw c.in-Some.is at c.requires.found

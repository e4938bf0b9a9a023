use Rattle.findings.specs.Passes.{unit_in}
use Rattle.vet_suite.proofs.FreeLemmas.{trees_spelled}
use Rattle.vet_suite.proofs.suite.never_text.Goals as goal

pub run-requires-clause-spelled : goal.run-requires-clause-spelled
run-requires-clause-spelled c = trees_spelled (unit_in c.args.pass.now) c.args.files.now c.args.named.now c.args.given.now c.requires.given

pub run-requires-clause-apart : goal.run-requires-clause-apart
run-requires-clause-apart c = c.requires.given.apart

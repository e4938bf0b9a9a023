use Rattle.bind.specs.Answers.{AreReadOf}
use Rattle.bind.proofs.file.read_files.Given as goal

abbrev pub invariant-loop-at : goal.invariant-loop-at
invariant-loop-at l = AreReadOf l.files l.sources l.at l.read.items

use Rattle.findings.specs.Passes.{unit_in, marks_in}
use Rattle.vet_never.specs.Knowing.{AreFilesKnown}
use Rattle.vet_never.proofs.files.all_known.Given as goal

abbrev pub invariant-loop-file : goal.invariant-loop-file
invariant-loop-file l = AreFilesKnown (unit_in l.p) (marks_in l.p) l.known l.file l.list.items

use Rattle.findings.specs.Passes.{unit_in, marks_in}
use Rattle.vet_printf.specs.Knowing.{called_at}
use Rattle.vet_printf.specs.Walk.{walk_files, AreFilled}
use Rattle.vet_printf.specs.Wraps.{number_of}
use Rattle.vet_printf.proofs.walk.walk.Given as goal

abbrev pub invariant-loop-file : goal.invariant-loop-file
invariant-loop-file l = AreFilled l.known (unit_in l.p) (number_of l.kind) (walk_files (called_at l.known) (unit_in l.p) (marks_in l.p) (number_of l.kind) l.file) l.buckets

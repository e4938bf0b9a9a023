use Rattle.findings.specs.Passes.{unit_in, marks_in}
use Rattle.vet_printf.specs.Knowing.{called_at}
use Rattle.vet_printf.specs.Walk.{walk_nodes, walk_files, AreFilled}
use Rattle.vet_printf.specs.Wraps.{number_of}
use Rattle.vet_printf.proofs.walk.walk_to.Given as goal

abbrev pub invariant-loop-n : goal.invariant-loop-n
invariant-loop-n l = AreFilled l.known (unit_in l.p) (number_of l.kind) (walk_nodes (called_at l.known) (unit_in l.p) (marks_in l.p) (number_of l.kind) (walk_files (called_at l.known) (unit_in l.p) (marks_in l.p) (number_of l.kind) l.file) l.file l.n) l.buckets

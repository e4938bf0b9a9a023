use Rattle.std.proofs.Common.{arith, codes, refl}
use Rattle.gv_base.proofs.PathFacts.{path-of_segment}
use Rattle.disk_trial.proofs.write.Goals as goal

pub write-written-requires : goal.write-written-requires
write-written-requires c = path-of_segment (codes "w.go") refl (omega arith) (omega arith)

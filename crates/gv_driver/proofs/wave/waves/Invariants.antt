use Rattle.std.proofs.Common.{◌≡◌, ◌<◌, ◌*◌, length}
use Rattle.std.specs.Prelude.{sum_by}
use Rattle.wave_run.specs.Waves.{AllCan}
use Rattle.gv_driver.specs.Runs.{Goes}
use Rattle.gv_driver.specs.Tables.{AreRows, waiting}
use Rattle.gv_driver.specs.Tallies.{AreGrown, tally}
use Rattle.gv_driver.specs.Waves.{AreJobs, CanDo}
use Rattle.gv_driver.proofs.wave.waves.Given as goal

abbrev pub invariant-loop-alloc : goal.invariant-loop-alloc
invariant-loop-alloc g l = record {
  goes : Goes l.tree l.only l.cache l.fn.table.items l.table.items (tally (sum_by g.K.Kit.loads l.fn.kits) (sum_by g.K.Kit.runs l.fn.kits)) (tally (sum_by g.K.Kit.loads l.kits) (sum_by g.K.Kit.runs l.kits));
  rows : AreRows l.tree l.cache l.table.items;
  jobs : AreJobs l.tree l.table.items (length l.tree) l.jobs.items;
  can : AllCan (CanDo g.K.Kit.holds g.K.Kit.loads g.K.Kit.runs) (2 * waiting l.table.items) l.kits;
  some : 0 < length l.kits;
  grown : AreGrown g.K.Kit.loads g.K.Kit.runs l.fn.kits l.kits;
}

abbrev pub decreases-loop-alloc : goal.decreases-loop-alloc
decreases-loop-alloc g l = waiting l.table.items

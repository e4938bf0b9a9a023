use Rattle.std.proofs.Common.{◌≡◌, ◌<◌, ℕ, Some, map, length, slice_get}
use Rattle.gv_driver.proofs.wave.clear_all.Given as goal

abbrev pub invariant-loop-k : goal.invariant-loop-k
invariant-loop-k g l = record {
  size : length l.kits ≡ length l.fn.kits;
  holds : (j : ℕ) (kit : g.row.K.Denot) → j < l.k → slice_get l.kits j ≡ Some kit → g.K.Kit.holds kit;
  loads : map g.K.Kit.loads l.kits ≡ map g.K.Kit.loads l.fn.kits;
  runs : map g.K.Kit.runs l.kits ≡ map g.K.Kit.runs l.fn.kits;
}

use Rattle.std.proofs.Common.{◌≡◌, drop}
use Rattle.gv_driver.specs.Rows.{is_among}
use Rattle.gv_driver.proofs.rows.is_path_among.Given as goal

abbrev pub invariant-loop-one : goal.invariant-loop-one
invariant-loop-one l = is_among (drop l.one-index l.paths) l.path ≡ is_among l.paths l.path

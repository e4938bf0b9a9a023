use Rattle.std.proofs.Common.{◌≡◌, take}
use Rattle.gv_driver.specs.Given.{givens}
use Rattle.gv_driver.specs.Making.{AreSought, asked_in}
use Rattle.gv_driver.proofs.runs.seek_all.Given as goal

abbrev pub invariant-loop-number : goal.invariant-loop-number
invariant-loop-number l = record {
  load : l.run.load ≡ l.fn.run.load;
  sought : AreSought (givens l.tree l.table l.env) l.cache l.fn.run.load (take l.number-index l.numbers) l.nodes.items;
  asked : l.asked.items ≡ asked_in (givens l.tree l.table l.env) l.nodes.items;
}

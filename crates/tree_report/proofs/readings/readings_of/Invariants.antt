use Rattle.tree_report.specs.Readings.{AreReadings}
use Rattle.tree_report.proofs.readings.readings_of.Given as goal

abbrev pub invariant-loop-file : goal.invariant-loop-file
invariant-loop-file l = AreReadings l.file l.list.items

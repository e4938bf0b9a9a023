use Rattle.std.proofs.Common.{◌-◌, length}
use Rattle.scripts.specs.Reading.{IsReadTo}
use Rattle.scripts.proofs.reading.each_script_is_read_to_its_end.Given as goal

abbrev pub invariant-script : goal.invariant-script
invariant-script l = IsReadTo l.script l.at

abbrev pub decreases-script : goal.decreases-script
decreases-script l = length l.script - l.at

use Rattle.scripts.proofs.ReadOnLaws.{one-reading}
use Rattle.scripts.proofs.reading.one_reading_of_a_script.Goals as goal

pub returns : goal.returns
returns c = one-reading

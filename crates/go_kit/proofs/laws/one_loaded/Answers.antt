use Rattle.go_kit.proofs.RunLemmas.{same-marks, same-read}
use Rattle.go_kit.proofs.laws.one_loaded.Goals as goal

pub returns-clause-unit : goal.returns-clause-unit
returns-clause-unit c = same-read

pub returns-clause-marks : goal.returns-clause-marks
returns-clause-marks c = same-marks

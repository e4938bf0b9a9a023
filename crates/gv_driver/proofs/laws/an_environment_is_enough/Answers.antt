use Rattle.gv_driver.proofs.BelowLaws.{typed-of}
use Rattle.gv_driver.proofs.laws.an_environment_is_enough.Goals as goal

pub returns : goal.returns
returns c = λ tree formed p judged is. typed-of tree formed p judged is

use Rattle.gv_driver.proofs.FoundInLaws.{denied}
use Rattle.gv_driver.proofs.standing.is_apart.Goals as goal

pub returns : goal.returns
returns c = denied c.overlaps.result _ c.overlaps.ensures

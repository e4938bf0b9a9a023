use Rattle.scopes.proofs.RegionLemmas.{laid}
use Rattle.scopes.proofs.laws.regions_are_laid.Goals as goal

pub returns : goal.returns
returns c s m f within = laid s m f within

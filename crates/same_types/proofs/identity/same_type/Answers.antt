use Rattle.same_types.proofs.SameLemmas.{same_as}
use Rattle.same_types.proofs.identity.same_type.Goals as goal

pub returns : goal.returns
returns c = same_as c.same.result _ _ c.same.ensures.one

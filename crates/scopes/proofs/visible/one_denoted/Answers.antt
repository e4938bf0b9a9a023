use Rattle.scopes.proofs.VisibleLemmas.{only_one}
use Rattle.scopes.proofs.visible.one_denoted.Goals as goal

pub returns : goal.returns
returns c ds laid u j k a b = only_one ds laid u j k a b

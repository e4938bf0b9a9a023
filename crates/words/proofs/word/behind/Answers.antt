use Rattle.words.proofs.WordLaws.{strips}
use Rattle.words.proofs.word.behind.Goals as goal

pub returns : goal.returns
returns c = strips _ _ _ c.strip_prefix.ensures.cases

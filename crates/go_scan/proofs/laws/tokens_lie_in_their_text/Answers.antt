use Rattle.go_scan.proofs.TokenLaws.{tokens_lie}
use Rattle.go_scan.proofs.laws.tokens_lie_in_their_text.Goals as goal

pub returns : goal.returns
returns c = tokens_lie

use Rattle.readable.proofs.Verdicts.{has_verdict}
use Rattle.readable.proofs.laws.each_text_has_a_verdict.Goals as goal

pub returns : goal.returns
returns c = has_verdict

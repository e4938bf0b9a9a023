use Rattle.parse_file.proofs.VerdictLaws as laws
use Rattle.parse_file.proofs.verdict.one_verdict.Goals as goal

pub returns : goal.returns
returns c = laws.one_verdict

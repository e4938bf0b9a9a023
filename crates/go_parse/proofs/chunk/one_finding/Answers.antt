use Rattle.go_parse.proofs.ChunkLaws as laws
use Rattle.go_parse.proofs.chunk.one_finding.Goals as goal

pub returns : goal.returns
returns c = laws.one_finding

use Rattle.go_parse.proofs.ChunkLaws as laws
use Rattle.go_parse.proofs.chunk.one_tree.Goals as goal

pub returns : goal.returns
returns c = laws.one_tree

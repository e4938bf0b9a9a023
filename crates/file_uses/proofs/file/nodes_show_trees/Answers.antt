use Rattle.file_uses.proofs.ArenaLemmas.{all_shown, all_formed}
use Rattle.file_uses.proofs.file.nodes_show_trees.Goals as goal

pub returns : goal.returns
returns c f = (all_shown f, all_formed f)

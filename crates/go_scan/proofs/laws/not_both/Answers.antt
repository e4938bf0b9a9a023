use Rattle.go_tree.specs.Lexeme.{item_of}
use Rattle.go_lexeme.proofs.Items.{no_item}
use Rattle.go_scan.proofs.Cuts as cuts
use Rattle.go_scan.proofs.laws.not_both.Goals as goal

pub returns : goal.returns
returns c = cuts.not_both item_of no_item

use Rattle.std.proofs.Common.{◌≤◌, ◌-◌, length}
use Rattle.go_lexeme.proofs.Items.{no_item}
use Rattle.go_tree.specs.Lexeme.{item_of}
use Rattle.go_scan.proofs.Cuts.{Reaches}
use Rattle.go_scan.proofs.scanner.scan_pieces.Given as goal

abbrev pub invariant-loop-at : goal.invariant-loop-at
invariant-loop-at l = record { within : l.at ≤ length l.bytes; reaches : Reaches item_of no_item l.bytes l.at l.due l.tokens.items }

abbrev pub decreases-loop-at : goal.decreases-loop-at
decreases-loop-at l = length l.bytes - l.at

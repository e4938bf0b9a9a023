use Rattle.std.proofs.Common.{arith}
use Rattle.go_lexeme.proofs.Items.{one_byte}
use Rattle.go_lexeme.proofs.item.long_mark_at.Goals as goal

-- one byte is always an item
pub returns : goal.returns
returns c = absurd (one_byte _ c.requires (c.in_default-mark_of_size-2.ensures (omega arith)))

use Rattle.std.proofs.Common.{arith}
use Rattle.parse_file.proofs.Counts.{tokens_length}
use Rattle.parse_file.proofs.verdict.parse_tokens.Goals as goal

pub parse_pieces-requires : goal.parse_pieces-requires
parse_pieces-requires c = omega (arith, tokens_length c.args.bytes.now c.args.tokens.now c.requires.lexed, c.requires.short)

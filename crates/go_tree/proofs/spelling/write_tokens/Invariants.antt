use Rattle.std.proofs.Common.{◌≡◌, ◌++◌, [], drop}
use Rattle.go_tree.specs.Spelling.{spelled_after}
use Rattle.go_tree.proofs.spelling.write_tokens.Given as goal

abbrev pub invariant-loop-token : goal.invariant-loop-token
invariant-loop-token l = l.out.items ++ spelled_after l.source l.left (drop l.token-index l.tokens) ≡ l.initial.out.items ++ spelled_after l.source [] l.tokens

use Rattle.std.proofs.Common.{◌≡◌, ◌++◌, take}
use Rattle.vet_words.specs.Texts.{tokens_key}
use Rattle.vet_words.proofs.texts.push_keys.Given as goal

abbrev pub invariant-loop-token : goal.invariant-loop-token
invariant-loop-token l = l.key.items ≡ l.fn.key.items ++ tokens_key l.source (take l.token-index l.tokens)

use Rattle.std.proofs.Common.{◌≡◌, ℕ, ◌<◌, true}
use Rattle.std.specs.Prelude.{slice_index}
use Rattle.go_tree.specs.Lexeme.{is_word_byte}
use Rattle.go_lexeme.proofs.class.word_run.Given as goal

abbrev pub invariant-loop-n : goal.invariant-loop-n
invariant-loop-n l = (k : ℕ) → k < l.n → is_word_byte (slice_index l.bytes k) ≡ true

use Rattle.std.proofs.Common.{◌≡◌, ◌+◌, IsUtf8}
use Rattle.std.specs.Str.{chars}
use Rattle.std.specs.Str.Iter.{chars_rest}
use Rattle.go_tree.specs.Word.{word_bytes}
use Rattle.go_lexeme.proofs.word.word_bytes.Given as goal

abbrev pub invariant-loop-c : goal.invariant-loop-c
invariant-loop-c l = record {
  utf8 : IsUtf8 (chars_rest l.c-iterator);
  size : l.size + word_bytes (chars (chars_rest l.c-iterator)) ≡ word_bytes (chars l.text);
}

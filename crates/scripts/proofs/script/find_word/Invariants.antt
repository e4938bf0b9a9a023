use Rattle.std.proofs.Common.{◌≡◌, ◌++◌, ℕ, ◌-◌, ◌<◌, List}
use Rattle.scripts.specs.declared.word.Word.{Word}
use Rattle.scripts.specs.Words.{text_of, number_of}
use Rattle.scripts.proofs.script.find_word.Given as goal

abbrev pub invariant-loop-number : goal.invariant-loop-number
invariant-loop-number l = (word : Word) → number_of word < l.number → (more after : List ℕ) → l.bytes ++ more ≡ text_of word ++ after → ⊥

abbrev pub decreases-loop-number : goal.decreases-loop-number
decreases-loop-number l = 9 - l.number

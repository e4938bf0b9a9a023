-- Words have one reading.
use Rattle.std.proofs.Common.{◌≡◌, ℕ, List, sym, ◌∙◌}
use Rattle.std.proofs.lemmas.Option.{same_Some}
use Rattle.words.specs.declared.asked.Words.{Words}
use Rattle.words.specs.Grammar.{Asks}
use Rattle.words.proofs.ReadingLaws.{asks-read}

pub one-reading : (words : List (List ℕ)) (call other : Words) → Asks words call → Asks words other → call ≡ other
one-reading words call other h k = same_Some call other (sym (asks-read words call h) ∙ asks-read words other k)

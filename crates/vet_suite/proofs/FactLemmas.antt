-- The text of no facts.
use Rattle.std.proofs.Common.{◌≡◌, ◌++◌, ℕ, List, [], ◌∷◌, sym, ap, ◌∙◌, arith}
use Rattle.std.proofs.lemmas.Fmt.{decimal_digit}
use Rattle.gv_bytes.specs.Spelling.{SEMICOLON, number}
use Rattle.vet_suite.specs.Suite.{no_facts}

pub no_facts_text : (text : List ℕ) → text ≡ 48 ∷ 59 ∷ [] → text ≡ no_facts
unfolding number
no_facts_text text e = e ∙ sym (ap (λ (l : List ℕ). l ++ SEMICOLON ∷ []) (decimal_digit 0 (omega arith)))

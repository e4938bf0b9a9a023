-- Loops over files and errors.
use Rattle.std.proofs.Common.{◌≡◌, ℕ, ◌+◌, ◌<◌, inl, inr, List, length, take, get_or, All, subst, arith}
use Rattle.std.proofs.lemmas.Bool.{cases_lt}
use Rattle.std.proofs.lemmas.List.Elements.{All-more}
use Rattle.gv_base.specs.Files.{Entry}
use Rattle.analysis_core.specs.declared.reply.ErrorLine.{ErrorLine}
use Rattle.report_text.specs.Standing.{StandsIn}

-- what holds of each number below n, and of n
below_one_more : (P : ℕ → Type 0) (n : ℕ) → ((k : ℕ) → k < n → P k) → P n → (k : ℕ) → k < n + 1 → P k
below_one_more P n old new k lt = elim (cases_lt k n) [
  | inl less ↦ old k less
  | inr more ↦ (let e : n ≡ k = omega (arith, more, lt) in subst P e new)
]

pub stand-more : (files : List Entry) (errors : List ErrorLine) (n : ℕ) (e : ErrorLine) → n < length errors → All (StandsIn files) (take n errors) → e ≡ get_or errors n e → StandsIn files e
    → All (StandsIn files) (take (n + 1) errors)
stand-more files errors n e lt old is stands = All-more (StandsIn files) errors n e lt old (subst (StandsIn files) is stands)

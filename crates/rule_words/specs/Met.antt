-- Spellings that were met, in code.
use Rattle.std.specs.Prelude.{ℕ, ℤ, pos, negsuc, Bool, List, [], ◌∷◌, is_some, Option}
use Rattle.std.specs.Global.{Vec}
use Rattle.std.specs.HashMap.{HashMap, get_by}
use Rattle.std.specs.Str.{bytes_eq}

-- what is kept under a spelling
abbrev pub kept : {S : Type 0} → HashMap (Vec ℕ) ℕ S → List ℕ → Option ℕ
kept met key = get_by (λ k. bytes_eq key k.items) met

abbrev pub holds : {S : Type 0} → HashMap (Vec ℕ) ℕ S → List ℕ → Bool
holds met key = is_some (kept met key)

-- an integer, spelled
abbrev pub spelled_int : ℤ → List ℕ
spelled_int (pos n) = 0 ∷ n ∷ []
spelled_int (negsuc n) = 1 ∷ n ∷ []

-- The errors of a reply beside those that comments expect.
use Rattle.std.specs.Prelude.{◌≡◌, ℕ, List, Option, Some, slice_get, length}
use Rattle.check_cases.specs.declared.expected.Expected.{Expected}
use Rattle.check_cases.specs.declared.found.Found.{Found}

-- the column is the one that is expected, if one is
abbrev pub IsColumn : Option ℕ → ℕ → Type 0
IsColumn wanted column = (c : ℕ) → wanted ≡ Some c → c ≡ column

-- the error is the one that is expected
pub record Meets (wanted : Expected) (error : Found) : Type 0 where
  pub path : wanted.path.now ≡ error.path.now
  pub line : wanted.line ≡ error.line
  pub column : IsColumn wanted.column error.column
  pub text : wanted.text.now ≡ error.text.now

-- as many errors as are expected, and each the one that is expected at its place in the list
pub record AreMet (wanted : List Expected) (errors : List Found) : Type 0 where
  pub size : length wanted ≡ length errors
  pub each : (i : ℕ) (one : Expected) (error : Found) → slice_get wanted i ≡ Some one → slice_get errors i ≡ Some error → Meets one error

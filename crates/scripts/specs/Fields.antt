-- What the readers of fields answer.
use Rattle.std.specs.Prelude.{◌≡◌, ℕ, ◌+◌, ◌^◌, ◌<◌, List, [], ◌∷◌, ◌++◌, length, take, drop}
use Rattle.std.specs.Fmt.{decimal}
use Rattle.gv_base.specs.Paths.{IsPath}
use Rattle.scripts.specs.declared.fields.Field.{Field}
use Rattle.scripts.specs.declared.fields.Field.TheVariants.{Read, Part, Other}
use Rattle.scripts.specs.declared.fields.Length.{Length}
use Rattle.scripts.specs.declared.fields.Length.TheVariants.{Value, Digits, Wrong}

-- the bytes begin with the word, or are less than the word, or begin otherwise
abbrev pub IsWord : List ℕ → List ℕ → Field → Type 0
IsWord bytes word (Read n) = (n ≡ length word) × (bytes ≡ word ++ drop n bytes)
IsWord bytes word Part = (more : List ℕ) × (0 < length more) × (bytes ++ more ≡ word)
IsWord bytes word Other = (more after : List ℕ) → bytes ++ more ≡ word ++ after → ⊥

-- the bytes begin with a path and the byte that stops it, or are less than such, or begin otherwise
abbrev pub IsPathField : ℕ → List ℕ → Field → Type 0
IsPathField stop bytes (Read n) = IsPath (take n bytes) × (n < length bytes) × (bytes ≡ take n bytes ++ stop ∷ drop (n + 1) bytes)
IsPathField stop bytes Part = (path : List ℕ) × (more : List ℕ) × IsPath path × (0 < length more) × (bytes ++ more ≡ path ++ stop ∷ [])
IsPathField stop bytes Other = (path more after : List ℕ) → IsPath path → bytes ++ more ≡ path ++ stop ∷ after → ⊥

-- the bytes begin with a length and a newline, or are less than such, or begin otherwise
abbrev pub IsLengthField : List ℕ → Length → Type 0
IsLengthField bytes (Value value n) = (value < 10 ^ 9) × (n < length bytes) × (decimal value ≡ take n bytes) × (bytes ≡ take n bytes ++ 10 ∷ drop (n + 1) bytes)
IsLengthField bytes Digits = (value : ℕ) × (more : List ℕ) × (value < 10 ^ 9) × (0 < length more) × (bytes ++ more ≡ decimal value ++ 10 ∷ [])
IsLengthField bytes Wrong = (value : ℕ) (more after : List ℕ) → value < 10 ^ 9 → bytes ++ more ≡ decimal value ++ 10 ∷ after → ⊥

-- the bytes begin with so many bytes and a newline, or are less than such, or begin otherwise
abbrev pub IsBodyField : ℕ → List ℕ → Field → Type 0
IsBodyField count bytes (Read n) = (n ≡ count) × (n < length bytes) × (bytes ≡ take n bytes ++ 10 ∷ drop (n + 1) bytes)
IsBodyField count bytes Part = (body : List ℕ) × (more : List ℕ) × (length body ≡ count) × (0 < length more) × (bytes ++ more ≡ body ++ 10 ∷ [])
IsBodyField count bytes Other = (body more after : List ℕ) → length body ≡ count → bytes ++ more ≡ body ++ 10 ∷ after → ⊥

-- The character at the front of some bytes.
use Rattle.std.specs.Prelude.{◌≡◌, ◌<◌, ◌≤◌, ◌⊎◌, ℕ, List, ◌++◌, length, take, encode_utf8, IsUtf8}
use Rattle.std.specs.Char.{IsScalar}

-- the bytes begin with the UTF-8 of the character
pub record Begins (rest : List ℕ) (c : ℕ) : Type 0 where
  pub scalar : IsScalar c
  pub more : List ℕ
  pub spelled : rest ≡ encode_utf8 c ++ more

-- the character and the number of its bytes; a byte that begins none counts as U+FFFD
abbrev pub IsCharacter : List ℕ → ℕ → ℕ → Type 0
IsCharacter rest c size =
    (Begins rest c × (size ≡ length (encode_utf8 c)))
    ⊎ ((0 < length rest) × ((other : ℕ) → ¬ (Begins rest other)) × (c ≡ 0xFFFD) × (size ≡ 1))

-- the longest text at the front
pub record IsLongestText (front text : List ℕ) : Type 0 where
  pub is_text : IsUtf8 text
  pub begins : text ≡ take (length text) front
  pub within : length text ≤ length front
  pub longest : (m : ℕ) → length text < m → m ≤ length front → ¬ (IsUtf8 (take m front))

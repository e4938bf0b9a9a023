-- How far the parts of a directive reach, and how large their numbers are.
use Rattle.std.specs.Prelude.{◌<◌, ◌≤◌, ℕ, Option, unwrap_or, List, length}
use Rattle.printf_format.specs.declared.parts.Index.{Index}
use Rattle.printf_format.specs.declared.parts.Size.{Size}
use Rattle.printf_format.specs.declared.parts.Parts.{Parts}
use Rattle.printf_format.specs.declared.parts.Turn.{Turn}
use Rattle.printf_format.specs.declared.parts.Turn.TheVariants.{End, Whole, NoVerb, BadIndex}

-- the argument number of an index
abbrev pub IsSmall : Option ℕ → Type 0
IsSmall number = unwrap_or number 0 < 100000

pub record IndexWithin (text : List ℕ) (at : ℕ) (index : Index) : Type 0 where
  pub after : at ≤ index.end
  pub within : index.end ≤ length text
  pub small : IsSmall index.number

pub record SizeWithin (text : List ℕ) (at : ℕ) (size : Size) : Type 0 where
  pub after : at ≤ size.end
  pub within : size.end ≤ length text
  pub small : IsSmall size.index

pub record AreSmall (parts : Parts) : Type 0 where
  pub width : IsSmall parts.width.index
  pub precision : IsSmall parts.precision.index
  pub last : IsSmall parts.last.number

pub record PartsWithin (text : List ℕ) (at : ℕ) (parts : Parts) : Type 0 where
  pub after : at < parts.end
  pub within : parts.end ≤ length text
  pub small : AreSmall parts

abbrev pub TurnWithin : List ℕ → ℕ → Turn → Type 0
TurnWithin text at End = Unit {0}
TurnWithin text at (Whole start parts) = (at ≤ start) × PartsWithin text start parts
TurnWithin text at (NoVerb start) = start ≤ length text
TurnWithin text at (BadIndex place) = place ≤ length text

-- A text with all its directives before its end or its first fault.
use Rattle.std.specs.Prelude.{◌≡◌, ℕ, List}
use Rattle.printf_format.specs.declared.parts.Turn.{Turn}
use Rattle.printf_format.specs.declared.parts.Turn.TheVariants.{End, Whole, NoVerb, BadIndex}
use Rattle.printf_format.specs.declared.whole.Ending.{Ending}
use Rattle.printf_format.specs.declared.whole.Ending.TheVariants as e
use Rattle.printf_format.specs.declared.whole.FormatRead.{FormatRead}
use Rattle.printf_format.specs.Formats.{Reads}

-- what ends the directives
abbrev pub ending_of : Turn → Ending
ending_of End = e.Over
ending_of (Whole start parts) = e.Over
ending_of (NoVerb at) = e.NoVerb at
ending_of (BadIndex at) = e.BadIndex at

-- These directives follow one another, and then comes the end or a fault.
pub record IsRead (text : List ℕ) (read : FormatRead) : Type 0 where
  pub last : Turn
  pub reads : Reads text 0 1 read.directives last
  pub ends : read.ending ≡ ending_of last

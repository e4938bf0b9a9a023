-- What a format says.
use Rattle.std.specs.Prelude.{◌≡◌, ℕ, List, [], ◌∷◌}
use Rattle.printf_format.specs.declared.format.Directive.{Directive}
use Rattle.printf_format.specs.declared.format.Format.{Format}
use Rattle.printf_format.specs.declared.format.Format.TheVariants as format
use Rattle.printf_format.specs.declared.parts.Parts.{Parts}
use Rattle.printf_format.specs.declared.parts.Turn.{Turn}
use Rattle.printf_format.specs.declared.parts.Turn.TheVariants.{End, Whole, NoVerb, BadIndex}
use Rattle.printf_format.specs.Grammar.{IsTurn}
use Rattle.printf_format.specs.Arguments.{directive_of, next_of}

-- it is no directive
abbrev pub IsLast : Turn → Type 0
IsLast End = Unit {0}
IsLast (Whole start parts) = ⊥
IsLast (NoVerb at) = Unit {0}
IsLast (BadIndex at) = Unit {0}

-- from an offset on, where an argument is the next, these directives follow one another, and then comes
-- the end or a fault
abbrev pub Reads : List ℕ → ℕ → ℕ → List Directive → Turn → Type 0
Reads text at next [] last = IsTurn text at last × IsLast last
Reads text at next (directive ∷ more) last = (start : ℕ) × (parts : Parts) × IsTurn text at (Whole start parts) × (directive ≡ directive_of next start parts) × Reads text parts.end (next_of next parts) more last

-- what the whole text says; arguments count from 1
abbrev pub IsFormat : List ℕ → Format → Type 0
IsFormat text (format.List directives) = Reads text 0 1 directives End
IsFormat text (format.NoVerb at) = (directives : List Directive) × Reads text 0 1 directives (NoVerb at)
IsFormat text (format.BadIndex at) = (directives : List Directive) × Reads text 0 1 directives (BadIndex at)

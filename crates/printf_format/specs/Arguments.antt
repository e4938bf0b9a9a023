-- Which arguments a directive reads. Each * and each verb but % reads the next argument; [n] makes n the
-- next one.
use Rattle.std.specs.Prelude.{ℕ, ◌+◌, ◌==◌, ◌||◌, Bool, not, is_some, unwrap_or, List, [], ◌∷◌, ◌++◌, if◌then◌else◌}
use Rattle.printf_format.specs.declared.format.Directive.{Directive}
use Rattle.printf_format.specs.declared.parts.Parts.{Parts}

-- the next argument, past the one that is read
abbrev pub past : Bool → ℕ → ℕ
past reads argument = if reads then argument + 1 else argument

-- the next argument at the width, at the precision and at the verb
abbrev pub at_width : ℕ → Parts → ℕ
at_width next parts = unwrap_or parts.width.index next

abbrev pub at_precision : ℕ → Parts → ℕ
at_precision next parts = unwrap_or parts.precision.index (past parts.width.star (at_width next parts))

abbrev pub at_verb : ℕ → Parts → ℕ
at_verb next parts = unwrap_or parts.last.number (past parts.precision.star (at_precision next parts))

-- the argument, if it is read
abbrev pub read_by : Bool → ℕ → List ℕ
read_by reads argument = if reads then argument ∷ [] else []

-- the arguments that the stars read
abbrev pub stars_of : ℕ → Parts → List ℕ
stars_of next parts = read_by parts.width.star (at_width next parts) ++ read_by parts.precision.star (at_precision next parts)

-- every verb but % reads an argument
abbrev pub reads : Parts → Bool
reads parts = not (parts.verb == 37)

abbrev pub is_indexed : Parts → Bool
is_indexed parts = is_some parts.width.index || is_some parts.precision.index || is_some parts.last.number

-- the directive of these parts, where `next` is the next argument
abbrev pub directive_of : ℕ → ℕ → Parts → Directive
directive_of next start parts = record {
  start = start;
  end = parts.end;
  flags = parts.flags;
  stars = stars_of next parts;
  argument = if reads parts then at_verb next parts else 0;
  indexed = is_indexed parts;
  verb = parts.verb;
}

-- the next argument behind it
abbrev pub next_of : ℕ → Parts → ℕ
next_of next parts = past (reads parts) (at_verb next parts)

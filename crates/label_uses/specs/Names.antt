-- What the code finds of names of labels and jumps.
use Rattle.std.specs.Prelude.{ℕ, cond, List, Option, Some, None, bytes_eq, codes}

-- the name of which it holds, if there is one
abbrev pub IsNameOf : (List ℕ → Type 0) → Option (List ℕ) → Type 0
IsNameOf P None = (name : List ℕ) → P name → ⊥
IsNameOf P (Some name) = P name

abbrev pub unless_blank : Option (List ℕ) → Option (List ℕ)
unless_blank None = None
unless_blank (Some name) = cond (bytes_eq name (codes "_")) None (Some name)

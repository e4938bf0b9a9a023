-- Which points a search has met.
use Rattle.std.specs.Prelude.{ℕ, ◌-◌, Bool, cond, nat_lt}
use Rattle.flow.specs.declared.seen.Seen.{Seen}
use Rattle.flow.specs.Passing.{flag_of}

-- a point is marked: by how far it is behind where the search starts, or how far before it
abbrev pub has : Seen → ℕ → Bool
has seen q = cond (nat_lt seen.start q) (flag_of seen.behind.items (q - seen.start)) (flag_of seen.before.items (seen.start - q))

use Rattle.std.proofs.Common.{◌≡◌, ℕ, List, take}
use Rattle.go_tree.specs.Lexeme.{place_of}
use Rattle.unit_read.specs.Index.{texts_of, found}
use Rattle.unit_read.proofs.first_names.index.Given as goal

abbrev pub invariant-loop-place : goal.invariant-loop-place
invariant-loop-place l = (q : List ℕ) → found l.names q ≡ place_of (take l.place (texts_of l.list)) q

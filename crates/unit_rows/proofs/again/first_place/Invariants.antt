use Rattle.std.proofs.Common.{◌≡◌, take}
use Rattle.go_tree.specs.Lexeme.{place_of}
use Rattle.unit_read.specs.Index.{texts_of}
use Rattle.unit_rows.proofs.again.first_place.Given as goal

abbrev pub invariant-loop-i : goal.invariant-loop-i
invariant-loop-i l = l.first ≡ place_of (take l.i (texts_of l.names)) l.name

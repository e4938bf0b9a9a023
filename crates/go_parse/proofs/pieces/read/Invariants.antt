use Rattle.std.proofs.Common.{◌≤◌, ◌-◌, length}
use Rattle.go_parse.specs.Reading.{Stands}
use Rattle.go_parse.proofs.pieces.read.Given as goal

abbrev pub invariant-loop-reader : goal.invariant-loop-reader
invariant-loop-reader l = record { stands : Stands l.classes l.reader; inside : l.reader.at ≤ length l.classes }

abbrev pub decreases-loop-reader : goal.decreases-loop-reader
decreases-loop-reader l = length l.classes - l.reader.at

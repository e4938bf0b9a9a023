use Rattle.std.proofs.Common.{◌≡◌, map, drop, string_bytes}
use Rattle.words.specs.Machine.{read, start}
use Rattle.words.proofs.reading.reading.Given as goal

abbrev pub invariant-loop-at : goal.invariant-loop-at
invariant-loop-at l = read start (map string_bytes l.words) ≡ read l.draft (drop l.at (map string_bytes l.words))

use Rattle.std.proofs.Common.{◌≡◌, map, take}
use Rattle.file_uses.specs.Assigned.{keyed}
use Rattle.file_uses.specs.Numbers.{number}
use Rattle.file_uses.proofs.assigned.statement_keys.Given as goal

abbrev pub invariant-loop-name : goal.invariant-loop-name
invariant-loop-name l = l.keys.items ≡ map (keyed (number l.numbers) l.count) (take l.name-index l.names)

use Rattle.std.proofs.Common.{◌≡◌, map, take}
use Rattle.scopes.specs.Laid.{numbered}
use Rattle.file_uses.specs.Numbers.{number}
use Rattle.file_uses.proofs.locals.number_all.Given as goal

abbrev pub invariant-loop-name : goal.invariant-loop-name
invariant-loop-name l = l.declarations.items ≡ map (numbered (number l.numbers) l.total) (take l.name-index l.names)

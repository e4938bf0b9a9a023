use Rattle.std.proofs.Common.{◌≡◌, map, take}
use Rattle.shadowed_results.specs.Tables.{found}
use Rattle.shadowed_results.specs.InCode.{turned}
use Rattle.shadowed_results.proofs.regions.turn_all.Given as goal

abbrev pub invariant-loop-name : goal.invariant-loop-name
invariant-loop-name l = l.list.items ≡ map (turned l.bytes l.tree (found l.table) l.functions) (take l.name-index l.names)

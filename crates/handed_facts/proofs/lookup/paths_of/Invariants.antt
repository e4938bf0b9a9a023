use Rattle.std.proofs.Common.{◌≡◌, map, take}
use Rattle.unit_read.specs.Index.{texts_of}
use Rattle.handed_facts.specs.Handed.{path_in}
use Rattle.handed_facts.proofs.lookup.paths_of.Given as goal

abbrev pub invariant-loop-x : goal.invariant-loop-x
invariant-loop-x l = texts_of l.paths.items ≡ map path_in (take l.x-index l.given)

use Rattle.std.proofs.Common.{◌≡◌, map, take}
use Rattle.unit_read.specs.Index.{texts_of}
use Rattle.own_functions.specs.InCode.{declared_name}
use Rattle.own_functions.proofs.functions.names_of.Given as goal

abbrev pub invariant-loop-d : goal.invariant-loop-d
invariant-loop-d l = texts_of l.names.items ≡ map declared_name (take l.d-index l.list)

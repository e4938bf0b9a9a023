use Rattle.std.proofs.Common.{◌≡◌, take}
use Rattle.unit_read.specs.Environments.{names_of}
use Rattle.unit_read.specs.Index.{texts_of}
use Rattle.unit_read.proofs.environment.name_list.Given as goal

abbrev pub invariant-loop-object : goal.invariant-loop-object
invariant-loop-object l = texts_of l.list.items ≡ names_of (take l.object-index l.objects)

use Rattle.std.proofs.Common.{◌≡◌, take}
use Rattle.unit_read.specs.Environments.{interface_paths}
use Rattle.unit_read.specs.Index.{texts_of}
use Rattle.unit_read.proofs.environment.path_list.Given as goal

abbrev pub invariant-loop-interface : goal.invariant-loop-interface
invariant-loop-interface l = texts_of l.list.items ≡ interface_paths (take l.interface-index l.interfaces)

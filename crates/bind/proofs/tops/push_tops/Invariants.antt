use Rattle.std.proofs.Common.{◌≡◌, ◌++◌, take}
use Rattle.bind.specs.Package.{tops_of}
use Rattle.bind.specs.Tables.{pairs}
use Rattle.bind.proofs.tops.push_tops.Given as goal

abbrev pub invariant-loop-named : goal.invariant-loop-named
invariant-loop-named l = pairs l.out.items ≡ pairs l.fn.out.items ++ tops_of l.file l.number (take l.named-index l.names)

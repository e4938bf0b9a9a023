use Rattle.std.proofs.Common.{◌≡◌, ◌++◌, length, take}
use Rattle.std.specs.List.{flat_map, AllByRecursion}
use Rattle.gv_bytes.specs.Spelling.{natural}
use Rattle.action_graph.specs.Marks.{mark, IsMark}
use Rattle.action_graph.proofs.marks.write_marks.Given as goal

abbrev pub invariant-loop-m : goal.invariant-loop-m
invariant-loop-m l =
    record { written : l.out.items ≡ natural (length l.marks) ++ flat_map mark (take l.m-index l.marks); size : AllByRecursion IsMark (take l.m-index l.marks) }

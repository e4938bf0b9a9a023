use Rattle.std.proofs.Common.{◌≡◌, ◌++◌, map, take}
use Rattle.go_tree.specs.Head.{import_line}
use Rattle.go_tree.proofs.tree.FileTree.push_lines.Given as goal

abbrev pub invariant-loop-part : goal.invariant-loop-part
invariant-loop-part l = l.lines.items ≡ l.initial.lines.items ++ map (import_line l.self l.source) (take l.part-index l.parts)

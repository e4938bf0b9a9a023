use Rattle.std.proofs.Common.{◌≡◌, ◌++◌, drop}
use Rattle.go_tree.specs.Head.{imports_of}
use Rattle.go_tree.proofs.tree.FileTree.imports.Given as goal

abbrev pub invariant-loop-top : goal.invariant-loop-top
invariant-loop-top l = l.lines.items ++ imports_of l.self l.source (drop l.top-index l.self.tops) ≡ imports_of l.self l.source l.self.tops

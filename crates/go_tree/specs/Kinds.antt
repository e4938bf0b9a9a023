-- What nodes are alike in.
use Rattle.std.specs.Prelude.{Bool, true, false}
use Rattle.go_tree.specs.declared.tree.NodeKind.{NodeKind}
use Rattle.go_tree.specs.declared.tree.NodeKind.TheVariants as k

-- a declaration of a function or of a method, or a literal (Go 1.17, "Function declarations", "Method declarations", "Function literals")
abbrev pub is_function : NodeKind → Bool
is_function k.FuncDecl = true
is_function k.MethodDecl = true
is_function k.FuncLit = true
is_function _ = false

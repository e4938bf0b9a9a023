-- What the parts of a node are so far, as far as rules ask.
use Rattle.std.specs.Prelude.{Bool, true, false, List, [], ◌∷◌}
use Rattle.go_tree.specs.declared.tree.NodeKind.{NodeKind}
use Rattle.go_tree.specs.declared.tree.NodeKind.TheVariants as k
use Rattle.go_tree.specs.declared.grammar.Sort.{Sort}
use Rattle.go_tree.specs.declared.grammar.Sort.TheVariants as o
use Rattle.go_tree.specs.declared.grammar.Shape.{Shape}
use Rattle.go_tree.specs.declared.grammar.Shape.TheVariants as s
use Rattle.go_tree.specs.declared.grammar.Guard.{Guard}
use Rattle.go_tree.specs.declared.grammar.Guard.TheVariants as g

-- what a node is beside others
abbrev pub sort : NodeKind → Sort
sort k.Name = o.Name
sort k.Names = o.List
sort k.Exprs = o.List
sort k.Param = o.Group
sort k.SpreadParam = o.SpreadGroup
sort k.Variadic = o.Spread
sort k.Star = o.Expr
sort k.FuncType = o.Expr
sort k.StructType = o.Expr
sort k.InterfaceType = o.Expr
sort k.MapType = o.Expr
sort k.Paren = o.Expr
sort k.RecvChan = o.Expr
sort k.Selector = o.Expr
sort k.SliceType = o.Expr
sort k.ArrayType = o.Expr
sort k.SendChan = o.Expr
sort k.ChanType = o.Expr
sort k.Composite = o.Expr
sort k.FuncLit = o.Expr
sort k.DotsType = o.Expr
sort k.Bind = o.Guard
sort k.TypeList = o.List
sort k.Index = o.Expr
sort k.SliceLow = o.Expr
sort k.SliceLowHigh = o.Expr
sort k.SliceLowHighMax = o.Expr
sort k.SliceAll = o.Expr
sort k.SliceHigh = o.Expr
sort k.SliceHighMax = o.Expr
sort k.Call = o.Expr
sort k.CallSpread = o.Expr
sort k.Int = o.Expr
sort k.Float = o.Expr
sort k.Imag = o.Expr
sort k.Rune = o.Expr
sort k.Text = o.Expr
sort k.Unary = o.Expr
sort k.Binary = o.Expr
sort k.Assert = o.Expr
sort k.TypeGuard = o.Guard
sort _ = o.Statement

-- the shape where one of a sort stands left of others
abbrev pub add : Shape → Sort → Shape
add s.Nothing o.Name = s.Name
add s.Nothing o.Expr = s.One
add s.Nothing o.Guard = s.Guard
add s.Nothing o.Statement = s.Statement
add s.Nothing o.List = s.List
add s.Nothing o.Group = s.Groups
add s.Nothing o.Spread = s.Spread
add s.Nothing o.SpreadGroup = s.SpreadGroups
add s.Name o.Name = s.Names
add s.Name o.Expr = s.Many
add s.Name _ = s.Mixed
add s.One o.Name = s.Many
add s.One o.Expr = s.Many
add s.One _ = s.Mixed
add s.Names o.Name = s.Names
add s.Names o.Expr = s.Many
add s.Names _ = s.Mixed
add s.Many o.Name = s.Many
add s.Many o.Expr = s.Many
add s.Many _ = s.Mixed
add s.Spread o.Name = s.Spread
add s.Spread o.Expr = s.Spread
add s.Spread _ = s.Mixed
add s.Guard o.Name = s.Bind
add s.Guard _ = s.EndsInGuard
add s.Bind _ = s.EndsInGuard
add s.EndsInGuard _ = s.EndsInGuard
add s.Statement _ = s.Mixed
add s.List _ = s.Mixed
add s.Groups o.Group = s.Groups
add s.Groups _ = s.Mixed
add s.SpreadGroups o.Group = s.SpreadGroups
add s.SpreadGroups _ = s.Mixed
add s.Mixed _ = s.Mixed

abbrev pub shape : List NodeKind → Shape
shape [] = s.Nothing
shape (k ∷ ks) = add (shape ks) (sort k)

abbrev pub meets : Guard → Shape → Bool
meets g.Any _ = true
meets g.Single s.Name = true
meets g.Single s.One = true
meets g.Single _ = false
meets g.SingleName s.Name = true
meets g.SingleName _ = false
meets g.Several s.Names = true
meets g.Several s.Many = true
meets g.Several _ = false
meets g.SeveralNames s.Names = true
meets g.SeveralNames _ = false
meets g.OneGuard s.Guard = true
meets g.OneGuard _ = false
meets g.NoGuard s.Guard = false
meets g.NoGuard s.Bind = false
meets g.NoGuard s.EndsInGuard = false
meets g.NoGuard _ = true
meets g.SomeGuard s.Guard = true
meets g.SomeGuard s.Bind = true
meets g.SomeGuard s.EndsInGuard = true
meets g.SomeGuard _ = false
meets g.Binds s.Bind = true
meets g.Binds _ = false
meets g.Tag s.Nothing = true
meets g.Tag s.Name = true
meets g.Tag s.One = true
meets g.Tag _ = false
meets g.Opening s.Nothing = true
meets g.Opening s.Name = true
meets g.Opening s.One = true
meets g.Opening s.Statement = true
meets g.Opening _ = false
meets g.Nothing s.Nothing = true
meets g.Nothing _ = false
meets g.Parameters s.Mixed = false
meets g.Parameters _ = true
meets g.ResultList s.Spread = false
meets g.ResultList s.SpreadGroups = false
meets g.ResultList s.Mixed = false
meets g.ResultList _ = true
meets g.FieldNames s.Name = true
meets g.FieldNames s.List = true
meets g.FieldNames _ = false
meets g.Assigned s.Name = true
meets g.Assigned s.One = true
meets g.Assigned s.List = true
meets g.Assigned _ = false

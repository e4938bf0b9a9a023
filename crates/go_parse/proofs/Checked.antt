-- The table is one that a single token of look-ahead decides.
use Rattle.std.proofs.Common.{◌≡◌, true, refl}
use Rattle.go_tree.specs.declared.grammar.Category.{Category}
use Rattle.go_tree.specs.declared.grammar.Category.TheVariants as c
use Rattle.go_tree.specs.declared.grammar.Setting.{Setting}
use Rattle.go_tree.specs.declared.grammar.Setting.TheVariants as m
use Rattle.go_tree.specs.Inlines.{greedy, inlines}
use Rattle.go_tree.specs.Nodes.{nodes}
use Rattle.go_tree.specs.Operands.{prefixes, suffixes}
use Rattle.go_tree.specs.First.{first, nullable}
use Rattle.go_tree.specs.Follow.{follow}
use Rattle.go_parse.proofs.Check.{fine_inlines, fine_nodes, fine_prefixes, fine_suffixes}

pub inlines_are_fine : (x : Category) → fine_inlines x ≡ true
unfolding inlines greedy first nullable follow
inlines_are_fine c.ClausePiece = refl
inlines_are_fine c.TopPiece = refl
inlines_are_fine c.ImportSpecs = refl
inlines_are_fine c.MoreImportSpecs = refl
inlines_are_fine c.Declaration = refl
inlines_are_fine c.ConstSpecs = refl
inlines_are_fine c.MoreConstSpecs = refl
inlines_are_fine c.MoreNames = refl
inlines_are_fine c.MoreExprs = refl
inlines_are_fine c.TypeSpecs = refl
inlines_are_fine c.MoreTypeSpecs = refl
inlines_are_fine c.VarSpecs = refl
inlines_are_fine c.MoreVarSpecs = refl
inlines_are_fine c.Signature = refl
inlines_are_fine c.Results = refl
inlines_are_fine c.Entries = refl
inlines_are_fine c.MoreEntries = refl
inlines_are_fine c.TrailingComma = refl
inlines_are_fine c.RunItem = refl
inlines_are_fine c.MoreRun = refl
inlines_are_fine c.Fields = refl
inlines_are_fine c.MoreFields = refl
inlines_are_fine c.Tag = refl
inlines_are_fine c.Elems = refl
inlines_are_fine c.MoreElems = refl
inlines_are_fine c.Items = refl
inlines_are_fine c.MoreItems = refl
inlines_are_fine c.Element = refl
inlines_are_fine c.Statements = refl
inlines_are_fine c.Statement = refl
inlines_are_fine c.Values = refl
inlines_are_fine c.Target = refl
inlines_are_fine c.Labeled = refl
inlines_are_fine c.MoreHeadExprs = refl
inlines_are_fine c.Init = refl
inlines_are_fine c.Branch = refl
inlines_are_fine c.Subject = refl
inlines_are_fine c.Clauses = refl
inlines_are_fine c.TypeClauses = refl
inlines_are_fine c.MoreTypes = refl
inlines_are_fine c.CommClauses = refl
inlines_are_fine c.Comm = refl
inlines_are_fine c.Condition = refl
inlines_are_fine c.PostPart = refl
inlines_are_fine _ = refl

pub nodes_are_fine : (x : Category) → fine_nodes x ≡ true
unfolding nodes greedy first nullable follow
nodes_are_fine c.Clause = refl
nodes_are_fine c.NamedIdent = refl
nodes_are_fine c.BlankIdent = refl
nodes_are_fine c.Ident = refl
nodes_are_fine c.Import = refl
nodes_are_fine c.ImportTail = refl
nodes_are_fine c.ImportSpec = refl
nodes_are_fine c.Const = refl
nodes_are_fine c.ConstTail = refl
nodes_are_fine c.ConstSpec = refl
nodes_are_fine c.ConstSpecTail = refl
nodes_are_fine c.Names = refl
nodes_are_fine c.NamesEnd = refl
nodes_are_fine c.Exprs = refl
nodes_are_fine c.ExprsEnd = refl
nodes_are_fine c.Types = refl
nodes_are_fine c.TypesTail = refl
nodes_are_fine c.TypeSpec = refl
nodes_are_fine c.TypeSpecTail = refl
nodes_are_fine c.Vars = refl
nodes_are_fine c.VarsTail = refl
nodes_are_fine c.VarSpec = refl
nodes_are_fine c.VarSpecTail = refl
nodes_are_fine c.VarTypedTail = refl
nodes_are_fine c.Func = refl
nodes_are_fine c.FuncName = refl
nodes_are_fine c.FuncBody = refl
nodes_are_fine c.MethodBody = refl
nodes_are_fine c.Params = refl
nodes_are_fine c.ParamsEnd = refl
nodes_are_fine c.ResultParams = refl
nodes_are_fine c.ResultsEnd = refl
nodes_are_fine c.Entry = refl
nodes_are_fine c.EntryTail = refl
nodes_are_fine c.Run = refl
nodes_are_fine c.Variadic = refl
nodes_are_fine c.RunEnd = refl
nodes_are_fine c.Type = refl
nodes_are_fine c.ChanElem = refl
nodes_are_fine c.PlainType = refl
nodes_are_fine c.NameTail = refl
nodes_are_fine c.BracketTail = refl
nodes_are_fine c.ChanTail = refl
nodes_are_fine c.TypeName = refl
nodes_are_fine c.Field = refl
nodes_are_fine c.FieldHead = refl
nodes_are_fine c.FieldHeadEnd = refl
nodes_are_fine c.FieldTail = refl
nodes_are_fine c.Elem = refl
nodes_are_fine c.BlankElemTail = refl
nodes_are_fine c.ElemTail = refl
nodes_are_fine c.Value = refl
nodes_are_fine c.Item = refl
nodes_are_fine c.ItemTail = refl
nodes_are_fine c.LitTail = refl
nodes_are_fine c.FuncTail = refl
nodes_are_fine c.StructType = refl
nodes_are_fine c.MapType = refl
nodes_are_fine c.BracketType = refl
nodes_are_fine c.DotsType = refl
nodes_are_fine c.Block = refl
nodes_are_fine c.List = refl
nodes_are_fine c.AfterStatement = refl
nodes_are_fine c.Go = refl
nodes_are_fine c.Defer = refl
nodes_are_fine c.Return = refl
nodes_are_fine c.Break = refl
nodes_are_fine c.Continue = refl
nodes_are_fine c.Goto = refl
nodes_are_fine c.Fallthrough = refl
nodes_are_fine c.Left = refl
nodes_are_fine c.LeftEnd = refl
nodes_are_fine c.Simple = refl
nodes_are_fine c.SimpleTail = refl
nodes_are_fine c.CommSimple = refl
nodes_are_fine c.CommTail = refl
nodes_are_fine c.HeadLeft = refl
nodes_are_fine c.HeadLeftEnd = refl
nodes_are_fine c.HeadExprs = refl
nodes_are_fine c.HeadExprsEnd = refl
nodes_are_fine c.HeadSimple = refl
nodes_are_fine c.HeadTail = refl
nodes_are_fine c.Bound = refl
nodes_are_fine c.BoundEnd = refl
nodes_are_fine c.DefineEnd = refl
nodes_are_fine c.Post = refl
nodes_are_fine c.PostSimple = refl
nodes_are_fine c.HeadExprs2 = refl
nodes_are_fine c.PostLeftEnd = refl
nodes_are_fine c.PostTail = refl
nodes_are_fine c.If = refl
nodes_are_fine c.IfTail = refl
nodes_are_fine c.Otherwise = refl
nodes_are_fine c.Switch = refl
nodes_are_fine c.SwitchTail = refl
nodes_are_fine c.SwitchEnd = refl
nodes_are_fine c.Subject1 = refl
nodes_are_fine c.SubjectTail = refl
nodes_are_fine c.SubjectEnd = refl
nodes_are_fine c.CaseClause = refl
nodes_are_fine c.TypeClause = refl
nodes_are_fine c.TypeList = refl
nodes_are_fine c.TypeListEnd = refl
nodes_are_fine c.Select = refl
nodes_are_fine c.CommClause = refl
nodes_are_fine c.For = refl
nodes_are_fine c.ForTail = refl
nodes_are_fine c.Cond = refl
nodes_are_fine c.IndexTail = refl
nodes_are_fine c.IndexEnd = refl
nodes_are_fine c.SliceLow = refl
nodes_are_fine c.SliceLowHigh = refl
nodes_are_fine c.SliceTail = refl
nodes_are_fine c.SliceHigh = refl
nodes_are_fine c.CallTail = refl
nodes_are_fine c.CallEnd = refl
nodes_are_fine _ = refl

pub prefixes_are_fine : (l : Setting) → fine_prefixes l ≡ true
unfolding prefixes first nullable follow
prefixes_are_fine m.Free = refl
prefixes_are_fine m.Header = refl

pub suffixes_are_fine : (l : Setting) → fine_suffixes l ≡ true
unfolding suffixes first nullable follow
suffixes_are_fine m.Free = refl
suffixes_are_fine m.Header = refl

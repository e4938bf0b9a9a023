-- The grammar's alternatives that make no node: their nodes stand among those of the rule that names them.
use Rattle.std.specs.Prelude.{Bool, true, false, List, [], ◌∷◌}
use Rattle.go_tree.specs.declared.grammar.Category.{Category}
use Rattle.go_tree.specs.declared.grammar.Category.TheVariants as c
use Rattle.go_tree.specs.declared.grammar.Terminal.TheVariants as t
use Rattle.go_tree.specs.declared.grammar.Symbol.{Symbol}
use Rattle.go_tree.specs.declared.grammar.Symbol.TheVariants.{Token, Part, Inline, Operand}
use Rattle.go_tree.specs.declared.grammar.Setting.TheVariants as m

unfoldable pub inlines : Category → List (List Symbol)
inlines c.ClausePiece = (Part c.Clause ∷ []) ∷ []
inlines c.TopPiece = (Part c.Import ∷ []) ∷ (Inline c.Declaration ∷ []) ∷ []
inlines c.ImportSpecs = [] ∷ (Part c.ImportSpec ∷ Inline c.MoreImportSpecs ∷ []) ∷ []
inlines c.MoreImportSpecs = [] ∷ (Token t.Semi ∷ Inline c.ImportSpecs ∷ []) ∷ []
inlines c.Declaration = (Part c.Const ∷ []) ∷ (Part c.Types ∷ []) ∷ (Part c.Vars ∷ []) ∷ (Part c.Func ∷ []) ∷ []
inlines c.ConstSpecs = [] ∷ (Part c.ConstSpec ∷ Inline c.MoreConstSpecs ∷ []) ∷ []
inlines c.MoreConstSpecs = [] ∷ (Token t.Semi ∷ Inline c.ConstSpecs ∷ []) ∷ []
inlines c.MoreNames = [] ∷ (Token t.Comma ∷ Part c.Ident ∷ Inline c.MoreNames ∷ []) ∷ []
inlines c.MoreExprs = [] ∷ (Token t.Comma ∷ Operand 2 m.Free ∷ Inline c.MoreExprs ∷ []) ∷ []
inlines c.TypeSpecs = [] ∷ (Part c.TypeSpec ∷ Inline c.MoreTypeSpecs ∷ []) ∷ []
inlines c.MoreTypeSpecs = [] ∷ (Token t.Semi ∷ Inline c.TypeSpecs ∷ []) ∷ []
inlines c.VarSpecs = [] ∷ (Part c.VarSpec ∷ Inline c.MoreVarSpecs ∷ []) ∷ []
inlines c.MoreVarSpecs = [] ∷ (Token t.Semi ∷ Inline c.VarSpecs ∷ []) ∷ []
inlines c.Signature = (Part c.Params ∷ Inline c.Results ∷ []) ∷ []
inlines c.Results = [] ∷ (Part c.ResultParams ∷ []) ∷ (Part c.PlainType ∷ []) ∷ []
inlines c.Entries = [] ∷ (Part c.Entry ∷ Inline c.MoreEntries ∷ Inline c.TrailingComma ∷ []) ∷ []
inlines c.MoreEntries = [] ∷ (Token t.Comma ∷ Part c.Entry ∷ Inline c.MoreEntries ∷ []) ∷ []
inlines c.TrailingComma = [] ∷ (Token t.CommaParen ∷ []) ∷ []
inlines c.RunItem = (Part c.Type ∷ []) ∷ (Part c.Variadic ∷ []) ∷ []
inlines c.MoreRun = [] ∷ (Token t.Comma ∷ Inline c.RunItem ∷ Inline c.MoreRun ∷ []) ∷ []
inlines c.Fields = [] ∷ (Part c.Field ∷ Inline c.MoreFields ∷ []) ∷ []
inlines c.MoreFields = [] ∷ (Token t.Semi ∷ Inline c.Fields ∷ []) ∷ []
inlines c.Tag = [] ∷ (Token t.Text ∷ []) ∷ []
inlines c.Elems = [] ∷ (Part c.Elem ∷ Inline c.MoreElems ∷ []) ∷ []
inlines c.MoreElems = [] ∷ (Token t.Semi ∷ Inline c.Elems ∷ []) ∷ []
inlines c.Items = [] ∷ (Part c.Item ∷ Inline c.MoreItems ∷ []) ∷ []
inlines c.MoreItems = [] ∷ (Token t.Comma ∷ Inline c.Items ∷ []) ∷ []
inlines c.Element = (Operand 2 m.Free ∷ []) ∷ (Part c.Value ∷ []) ∷ []
inlines c.Statements = [] ∷ (Token t.Semi ∷ Inline c.Statements ∷ []) ∷ (Inline c.Statement ∷ Part c.AfterStatement ∷ []) ∷ []
inlines c.Statement = (Part c.Const ∷ []) ∷ (Part c.Types ∷ []) ∷ (Part c.Vars ∷ []) ∷ (Part c.Simple ∷ []) ∷ (Part c.Go ∷ []) ∷ (Part c.Defer ∷ []) ∷ (Part c.Return ∷ []) ∷ (Part c.Break ∷ []) ∷ (Part c.Continue ∷ []) ∷ (Part c.Goto ∷ []) ∷ (Part c.Fallthrough ∷ []) ∷ (Part c.Block ∷ []) ∷ (Part c.If ∷ []) ∷ (Part c.Switch ∷ []) ∷ (Part c.Select ∷ []) ∷ (Part c.For ∷ []) ∷ []
inlines c.Values = [] ∷ (Part c.Exprs ∷ []) ∷ []
inlines c.Target = [] ∷ (Part c.Ident ∷ []) ∷ []
inlines c.Labeled = [] ∷ (Inline c.Statement ∷ []) ∷ []
inlines c.MoreHeadExprs = [] ∷ (Token t.Comma ∷ Operand 2 m.Header ∷ Inline c.MoreHeadExprs ∷ []) ∷ []
inlines c.Init = [] ∷ (Part c.HeadSimple ∷ []) ∷ []
inlines c.Branch = (Part c.If ∷ []) ∷ (Part c.Block ∷ []) ∷ []
inlines c.Subject = [] ∷ (Part c.Subject1 ∷ []) ∷ []
inlines c.Clauses = [] ∷ (Part c.CaseClause ∷ Inline c.Clauses ∷ []) ∷ []
inlines c.TypeClauses = [] ∷ (Part c.TypeClause ∷ Inline c.TypeClauses ∷ []) ∷ []
inlines c.MoreTypes = [] ∷ (Token t.Comma ∷ Part c.Type ∷ Inline c.MoreTypes ∷ []) ∷ []
inlines c.CommClauses = [] ∷ (Part c.CommClause ∷ Inline c.CommClauses ∷ []) ∷ []
inlines c.Comm = [] ∷ (Part c.CommSimple ∷ []) ∷ []
inlines c.Condition = [] ∷ (Part c.Cond ∷ []) ∷ []
inlines c.PostPart = [] ∷ (Part c.Post ∷ []) ∷ []
inlines _ = []

-- the categories of which an empty alternative is none where another could begin
unfoldable pub greedy : Category → Bool
greedy c.Results = true
greedy c.MoreRun = true
greedy _ = false

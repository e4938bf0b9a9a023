-- The turns that a category takes before the next token, at most.
use Rattle.std.proofs.Common.{◌≡◌, ℕ, suc, ◌+◌, Bool, true, false, List, [], ◌∷◌, cond, ◌&&◌, refl}
use Rattle.std.specs.Prelude.{nat_lt}
use Rattle.go_tree.specs.declared.grammar.Ending.{Ending}
use Rattle.go_tree.specs.declared.grammar.Ending.TheVariants.{Is, Bare, Tail}
use Rattle.go_tree.specs.declared.grammar.Category.{Category}
use Rattle.go_tree.specs.declared.grammar.Category.TheVariants as c
use Rattle.go_tree.specs.declared.grammar.Setting.{Setting}
use Rattle.go_tree.specs.declared.grammar.Setting.TheVariants as m
use Rattle.go_tree.specs.declared.grammar.Symbol.{Symbol}
use Rattle.go_tree.specs.declared.grammar.Symbol.TheVariants.{Token, Part, Inline, Operand}
use Rattle.go_tree.specs.Rule.{Rule}
use Rattle.go_tree.specs.Inlines.{inlines}
use Rattle.go_tree.specs.Nodes.{nodes}
use Rattle.go_tree.specs.Operands.{prefixes, suffixes}
use Rattle.go_tree.specs.First.{nullable}
use Rattle.go_tree.specs.Choice.{may_be_empty, empty, whole}
use Rattle.go_parse.proofs.Check.{all}

unfoldable pub weight : Category → ℕ
weight c.ClausePiece = 5
weight c.TopPiece = 6
weight c.ImportSpecs = 8
weight c.MoreImportSpecs = 2
weight c.Declaration = 5
weight c.ConstSpecs = 11
weight c.MoreConstSpecs = 2
weight c.MoreNames = 2
weight c.MoreExprs = 2
weight c.TypeSpecs = 8
weight c.MoreTypeSpecs = 2
weight c.VarSpecs = 11
weight c.MoreVarSpecs = 2
weight c.Signature = 5
weight c.Results = 8
weight c.Entries = 15
weight c.MoreEntries = 2
weight c.TrailingComma = 2
weight c.RunItem = 8
weight c.MoreRun = 2
weight c.Fields = 11
weight c.MoreFields = 2
weight c.Tag = 2
weight c.Elems = 8
weight c.MoreElems = 2
weight c.Items = 65
weight c.MoreItems = 2
weight c.Element = 61
weight c.Statements = 68
weight c.Statement = 67
weight c.Values = 64
weight c.Target = 5
weight c.Labeled = 68
weight c.MoreHeadExprs = 2
weight c.Init = 67
weight c.Branch = 5
weight c.Subject = 64
weight c.Clauses = 5
weight c.TypeClauses = 5
weight c.MoreTypes = 2
weight c.CommClauses = 5
weight c.Comm = 67
weight c.Condition = 64
weight c.PostPart = 70
weight c.Clause = 2
weight c.NamedIdent = 2
weight c.BlankIdent = 2
weight c.Ident = 2
weight c.Import = 2
weight c.ImportTail = 8
weight c.ImportSpec = 5
weight c.Const = 2
weight c.ConstTail = 11
weight c.ConstSpec = 8
weight c.ConstSpecTail = 8
weight c.Names = 5
weight c.NamesEnd = 2
weight c.Exprs = 61
weight c.ExprsEnd = 2
weight c.Types = 2
weight c.TypesTail = 8
weight c.TypeSpec = 5
weight c.TypeSpecTail = 8
weight c.Vars = 2
weight c.VarsTail = 11
weight c.VarSpec = 8
weight c.VarSpecTail = 8
weight c.VarTypedTail = 2
weight c.Func = 2
weight c.FuncName = 5
weight c.FuncBody = 5
weight c.MethodBody = 5
weight c.Params = 2
weight c.ParamsEnd = 2
weight c.ResultParams = 2
weight c.ResultsEnd = 2
weight c.Entry = 12
weight c.EntryTail = 8
weight c.Run = 9
weight c.Variadic = 2
weight c.RunEnd = 2
weight c.Type = 5
weight c.ChanElem = 5
weight c.PlainType = 5
weight c.NameTail = 2
weight c.BracketTail = 61
weight c.ChanTail = 8
weight c.TypeName = 5
weight c.Field = 8
weight c.FieldHead = 5
weight c.FieldHeadEnd = 2
weight c.FieldTail = 8
weight c.Elem = 5
weight c.BlankElemTail = 2
weight c.ElemTail = 6
weight c.Value = 2
weight c.Item = 62
weight c.ItemTail = 2
weight c.LitTail = 5
weight c.FuncTail = 5
weight c.StructType = 2
weight c.MapType = 2
weight c.BracketType = 2
weight c.DotsType = 2
weight c.Block = 2
weight c.List = 70
weight c.AfterStatement = 2
weight c.Go = 2
weight c.Defer = 2
weight c.Return = 2
weight c.Break = 2
weight c.Continue = 2
weight c.Goto = 2
weight c.Fallthrough = 2
weight c.Left = 61
weight c.LeftEnd = 2
weight c.Simple = 64
weight c.SimpleTail = 2
weight c.CommSimple = 64
weight c.CommTail = 2
weight c.HeadLeft = 61
weight c.HeadLeftEnd = 2
weight c.HeadExprs = 61
weight c.HeadExprsEnd = 2
weight c.HeadSimple = 64
weight c.HeadTail = 2
weight c.Bound = 61
weight c.BoundEnd = 2
weight c.DefineEnd = 2
weight c.Post = 67
weight c.PostSimple = 64
weight c.HeadExprs2 = 61
weight c.PostLeftEnd = 2
weight c.PostTail = 2
weight c.If = 2
weight c.IfTail = 5
weight c.Otherwise = 2
weight c.Switch = 2
weight c.SwitchTail = 2
weight c.SwitchEnd = 2
weight c.Subject1 = 61
weight c.SubjectTail = 2
weight c.SubjectEnd = 2
weight c.CaseClause = 2
weight c.TypeClause = 2
weight c.TypeList = 8
weight c.TypeListEnd = 2
weight c.Select = 2
weight c.CommClause = 2
weight c.For = 2
weight c.ForTail = 5
weight c.Cond = 61
weight c.IndexTail = 61
weight c.IndexEnd = 2
weight c.SliceLow = 61
weight c.SliceLowHigh = 2
weight c.SliceTail = 61
weight c.SliceHigh = 2
weight c.CallTail = 61
weight c.CallEnd = 4

abbrev pub weight_symbol : Symbol → ℕ
weight_symbol (Token t) = 1
weight_symbol (Part x) = 2 + weight x
weight_symbol (Inline x) = weight x
weight_symbol (Operand p l) = 60

-- the turns of these symbols, before m
abbrev pub turns_of : List Symbol → ℕ → ℕ
turns_of [] m = m
turns_of (s ∷ ss) m = weight_symbol s + cond (may_be_empty s) (turns_of ss m) 0

abbrev pub end_turns : Ending → ℕ → ℕ
end_turns (Is k) m = suc m
end_turns Bare m = suc m
end_turns (Tail x) m = weight x + cond (nullable x) (suc m) 0

abbrev pub rule_turns : Rule → ℕ → ℕ
rule_turns r m = turns_of r.symbols (end_turns r.ending m)

abbrev pub full : List Symbol → Bool
full ss = cond (empty ss) false true

abbrev pub light_inlines : Category → Bool
light_inlines x = all (λ r. nat_lt (turns_of r 0) (weight x)) (inlines x)

abbrev pub light_nodes : Category → Bool
light_nodes x = all (λ (r : Rule). nat_lt (rule_turns r 0) (weight x)) (nodes x)

pub inlines_light : (x : Category) → light_inlines x ≡ true
unfolding inlines nullable weight
inlines_light c.ClausePiece = refl
inlines_light c.TopPiece = refl
inlines_light c.ImportSpecs = refl
inlines_light c.MoreImportSpecs = refl
inlines_light c.Declaration = refl
inlines_light c.ConstSpecs = refl
inlines_light c.MoreConstSpecs = refl
inlines_light c.MoreNames = refl
inlines_light c.MoreExprs = refl
inlines_light c.TypeSpecs = refl
inlines_light c.MoreTypeSpecs = refl
inlines_light c.VarSpecs = refl
inlines_light c.MoreVarSpecs = refl
inlines_light c.Signature = refl
inlines_light c.Results = refl
inlines_light c.Entries = refl
inlines_light c.MoreEntries = refl
inlines_light c.TrailingComma = refl
inlines_light c.RunItem = refl
inlines_light c.MoreRun = refl
inlines_light c.Fields = refl
inlines_light c.MoreFields = refl
inlines_light c.Tag = refl
inlines_light c.Elems = refl
inlines_light c.MoreElems = refl
inlines_light c.Items = refl
inlines_light c.MoreItems = refl
inlines_light c.Element = refl
inlines_light c.Statements = refl
inlines_light c.Statement = refl
inlines_light c.Values = refl
inlines_light c.Target = refl
inlines_light c.Labeled = refl
inlines_light c.MoreHeadExprs = refl
inlines_light c.Init = refl
inlines_light c.Branch = refl
inlines_light c.Subject = refl
inlines_light c.Clauses = refl
inlines_light c.TypeClauses = refl
inlines_light c.MoreTypes = refl
inlines_light c.CommClauses = refl
inlines_light c.Comm = refl
inlines_light c.Condition = refl
inlines_light c.PostPart = refl
inlines_light _ = refl

pub nodes_light : (x : Category) → light_nodes x ≡ true
unfolding nodes nullable weight
nodes_light c.Clause = refl
nodes_light c.NamedIdent = refl
nodes_light c.BlankIdent = refl
nodes_light c.Ident = refl
nodes_light c.Import = refl
nodes_light c.ImportTail = refl
nodes_light c.ImportSpec = refl
nodes_light c.Const = refl
nodes_light c.ConstTail = refl
nodes_light c.ConstSpec = refl
nodes_light c.ConstSpecTail = refl
nodes_light c.Names = refl
nodes_light c.NamesEnd = refl
nodes_light c.Exprs = refl
nodes_light c.ExprsEnd = refl
nodes_light c.Types = refl
nodes_light c.TypesTail = refl
nodes_light c.TypeSpec = refl
nodes_light c.TypeSpecTail = refl
nodes_light c.Vars = refl
nodes_light c.VarsTail = refl
nodes_light c.VarSpec = refl
nodes_light c.VarSpecTail = refl
nodes_light c.VarTypedTail = refl
nodes_light c.Func = refl
nodes_light c.FuncName = refl
nodes_light c.FuncBody = refl
nodes_light c.MethodBody = refl
nodes_light c.Params = refl
nodes_light c.ParamsEnd = refl
nodes_light c.ResultParams = refl
nodes_light c.ResultsEnd = refl
nodes_light c.Entry = refl
nodes_light c.EntryTail = refl
nodes_light c.Run = refl
nodes_light c.Variadic = refl
nodes_light c.RunEnd = refl
nodes_light c.Type = refl
nodes_light c.ChanElem = refl
nodes_light c.PlainType = refl
nodes_light c.NameTail = refl
nodes_light c.BracketTail = refl
nodes_light c.ChanTail = refl
nodes_light c.TypeName = refl
nodes_light c.Field = refl
nodes_light c.FieldHead = refl
nodes_light c.FieldHeadEnd = refl
nodes_light c.FieldTail = refl
nodes_light c.Elem = refl
nodes_light c.BlankElemTail = refl
nodes_light c.ElemTail = refl
nodes_light c.Value = refl
nodes_light c.Item = refl
nodes_light c.ItemTail = refl
nodes_light c.LitTail = refl
nodes_light c.FuncTail = refl
nodes_light c.StructType = refl
nodes_light c.MapType = refl
nodes_light c.BracketType = refl
nodes_light c.DotsType = refl
nodes_light c.Block = refl
nodes_light c.List = refl
nodes_light c.AfterStatement = refl
nodes_light c.Go = refl
nodes_light c.Defer = refl
nodes_light c.Return = refl
nodes_light c.Break = refl
nodes_light c.Continue = refl
nodes_light c.Goto = refl
nodes_light c.Fallthrough = refl
nodes_light c.Left = refl
nodes_light c.LeftEnd = refl
nodes_light c.Simple = refl
nodes_light c.SimpleTail = refl
nodes_light c.CommSimple = refl
nodes_light c.CommTail = refl
nodes_light c.HeadLeft = refl
nodes_light c.HeadLeftEnd = refl
nodes_light c.HeadExprs = refl
nodes_light c.HeadExprsEnd = refl
nodes_light c.HeadSimple = refl
nodes_light c.HeadTail = refl
nodes_light c.Bound = refl
nodes_light c.BoundEnd = refl
nodes_light c.DefineEnd = refl
nodes_light c.Post = refl
nodes_light c.PostSimple = refl
nodes_light c.HeadExprs2 = refl
nodes_light c.PostLeftEnd = refl
nodes_light c.PostTail = refl
nodes_light c.If = refl
nodes_light c.IfTail = refl
nodes_light c.Otherwise = refl
nodes_light c.Switch = refl
nodes_light c.SwitchTail = refl
nodes_light c.SwitchEnd = refl
nodes_light c.Subject1 = refl
nodes_light c.SubjectTail = refl
nodes_light c.SubjectEnd = refl
nodes_light c.CaseClause = refl
nodes_light c.TypeClause = refl
nodes_light c.TypeList = refl
nodes_light c.TypeListEnd = refl
nodes_light c.Select = refl
nodes_light c.CommClause = refl
nodes_light c.For = refl
nodes_light c.ForTail = refl
nodes_light c.Cond = refl
nodes_light c.IndexTail = refl
nodes_light c.IndexEnd = refl
nodes_light c.SliceLow = refl
nodes_light c.SliceLowHigh = refl
nodes_light c.SliceTail = refl
nodes_light c.SliceHigh = refl
nodes_light c.CallTail = refl
nodes_light c.CallEnd = refl
nodes_light _ = refl

pub prefixes_light : (l : Setting) → all (λ (r : Rule). nat_lt (rule_turns r 0) 60 && full (whole r)) (prefixes l) ≡ true
unfolding prefixes nullable weight
prefixes_light m.Free = refl
prefixes_light m.Header = refl

pub suffixes_light : (l : Setting) → all (λ (r : Rule). nat_lt (rule_turns r 0) 60 && full (whole r)) (suffixes l) ≡ true
unfolding suffixes nullable weight
suffixes_light m.Free = refl
suffixes_light m.Header = refl

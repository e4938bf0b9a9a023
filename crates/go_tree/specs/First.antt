-- Which classes of token may begin a category, and which categories may be empty.
use Rattle.std.specs.Prelude.{ℕ, Bool, true, false, ◌==◌, ◌||◌, ◌&&◌, nat_le}
use Rattle.go_tree.specs.declared.grammar.Category.{Category}
use Rattle.go_tree.specs.declared.grammar.Category.TheVariants as c

abbrev pub first_operand : ℕ → Bool
first_operand c = (nat_le 0 c && nat_le c 5) || (c == 8 || (c == 16 || ((nat_le 21 c && nat_le c 22) || (c == 27 || (c == 36 || (c == 38 || ((nat_le 46 c && nat_le c 49) || (c == 51 || (c == 58 || (c == 63 || (c == 70 || (c == 76))))))))))))

unfoldable pub first : Category → ℕ → Bool
first c.ClausePiece c = c == 23
first c.TopPiece c = c == 9 || (c == 16 || (c == 20 || ((nat_le 29 c && nat_le c 30))))
first c.ImportSpecs c = c == 0 || (c == 5 || (c == 34 || (c == 76)))
first c.MoreImportSpecs c = c == 31
first c.Declaration c = c == 9 || (c == 16 || ((nat_le 29 c && nat_le c 30)))
first c.ConstSpecs c = c == 0 || (c == 76)
first c.MoreConstSpecs c = c == 31
first c.MoreNames c = c == 32
first c.MoreExprs c = c == 32
first c.TypeSpecs c = c == 0 || (c == 76)
first c.MoreTypeSpecs c = c == 31
first c.VarSpecs c = c == 0 || (c == 76)
first c.MoreVarSpecs c = c == 31
first c.Signature c = c == 36
first c.Results c = c == 0 || (c == 8 || (c == 16 || ((nat_le 21 c && nat_le c 22) || (c == 27 || (c == 36 || (c == 38 || (c == 46 || (c == 58 || (c == 76)))))))))
first c.Entries c = c == 0 || (c == 8 || (c == 16 || ((nat_le 21 c && nat_le c 22) || (c == 27 || ((nat_le 35 c && nat_le c 36) || (c == 38 || (c == 46 || (c == 58 || (c == 76)))))))))
first c.MoreEntries c = c == 32
first c.TrailingComma c = c == 73
first c.RunItem c = c == 0 || (c == 8 || (c == 16 || ((nat_le 21 c && nat_le c 22) || (c == 27 || ((nat_le 35 c && nat_le c 36) || (c == 38 || (c == 46 || (c == 58 || (c == 76)))))))))
first c.MoreRun c = c == 32
first c.Fields c = c == 0 || (c == 58 || (c == 76))
first c.MoreFields c = c == 31
first c.Tag c = c == 5
first c.Elems c = c == 0 || (c == 76)
first c.MoreElems c = c == 31
first c.Items c = (nat_le 0 c && nat_le c 5) || (c == 8 || (c == 16 || ((nat_le 21 c && nat_le c 22) || (c == 27 || (c == 36 || (c == 38 || (c == 40 || ((nat_le 46 c && nat_le c 49) || (c == 51 || (c == 58 || (c == 63 || (c == 70 || (c == 76)))))))))))))
first c.MoreItems c = c == 32
first c.Element c = (nat_le 0 c && nat_le c 5) || (c == 8 || (c == 16 || ((nat_le 21 c && nat_le c 22) || (c == 27 || (c == 36 || (c == 38 || (c == 40 || ((nat_le 46 c && nat_le c 49) || (c == 51 || (c == 58 || (c == 63 || (c == 70 || (c == 76)))))))))))))
first c.Statements c = (nat_le 0 c && nat_le c 6) || ((nat_le 8 c && nat_le c 10) || (c == 12 || ((nat_le 14 c && nat_le c 19) || ((nat_le 21 c && nat_le c 22) || ((nat_le 25 c && nat_le c 31) || (c == 36 || (c == 38 || (c == 40 || ((nat_le 46 c && nat_le c 49) || (c == 51 || (c == 58 || (c == 63 || (c == 70 || (c == 76))))))))))))))
first c.Statement c = (nat_le 0 c && nat_le c 6) || ((nat_le 8 c && nat_le c 10) || (c == 12 || ((nat_le 14 c && nat_le c 19) || ((nat_le 21 c && nat_le c 22) || ((nat_le 25 c && nat_le c 30) || (c == 36 || (c == 38 || (c == 40 || ((nat_le 46 c && nat_le c 49) || (c == 51 || (c == 58 || (c == 63 || (c == 70 || (c == 76))))))))))))))
first c.Values c = (nat_le 0 c && nat_le c 5) || (c == 8 || (c == 16 || ((nat_le 21 c && nat_le c 22) || (c == 27 || (c == 36 || (c == 38 || ((nat_le 46 c && nat_le c 49) || (c == 51 || (c == 58 || (c == 63 || (c == 70 || (c == 76))))))))))))
first c.Target c = c == 0 || (c == 76)
first c.Labeled c = (nat_le 0 c && nat_le c 6) || ((nat_le 8 c && nat_le c 10) || (c == 12 || ((nat_le 14 c && nat_le c 19) || ((nat_le 21 c && nat_le c 22) || ((nat_le 25 c && nat_le c 30) || (c == 36 || (c == 38 || (c == 40 || ((nat_le 46 c && nat_le c 49) || (c == 51 || (c == 58 || (c == 63 || (c == 70 || (c == 76))))))))))))))
first c.MoreHeadExprs c = c == 32
first c.Init c = (nat_le 0 c && nat_le c 5) || (c == 8 || (c == 16 || ((nat_le 21 c && nat_le c 22) || (c == 27 || (c == 36 || (c == 38 || ((nat_le 46 c && nat_le c 49) || (c == 51 || (c == 58 || (c == 63 || (c == 70 || (c == 76))))))))))))
first c.Branch c = c == 19 || (c == 40)
first c.Subject c = (nat_le 0 c && nat_le c 5) || (c == 8 || (c == 16 || ((nat_le 21 c && nat_le c 22) || (c == 27 || (c == 36 || (c == 38 || ((nat_le 46 c && nat_le c 49) || (c == 51 || (c == 58 || (c == 63 || (c == 70 || (c == 76))))))))))))
first c.Clauses c = c == 7 || (c == 11)
first c.TypeClauses c = c == 7 || (c == 11)
first c.MoreTypes c = c == 32
first c.CommClauses c = c == 7 || (c == 11)
first c.Comm c = (nat_le 0 c && nat_le c 5) || (c == 8 || (c == 16 || ((nat_le 21 c && nat_le c 22) || (c == 27 || (c == 36 || (c == 38 || ((nat_le 46 c && nat_le c 49) || (c == 51 || (c == 58 || (c == 63 || (c == 70 || (c == 76))))))))))))
first c.Condition c = (nat_le 0 c && nat_le c 5) || (c == 8 || (c == 16 || ((nat_le 21 c && nat_le c 22) || (c == 27 || (c == 36 || (c == 38 || ((nat_le 46 c && nat_le c 49) || (c == 51 || (c == 58 || (c == 63 || (c == 70 || (c == 76))))))))))))
first c.PostPart c = (nat_le 0 c && nat_le c 5) || (c == 8 || (c == 16 || ((nat_le 21 c && nat_le c 22) || (c == 27 || (c == 36 || (c == 38 || ((nat_le 46 c && nat_le c 49) || (c == 51 || (c == 58 || (c == 63 || (c == 70 || (c == 76))))))))))))
first c.Clause c = c == 23
first c.NamedIdent c = c == 0
first c.BlankIdent c = c == 76
first c.Ident c = c == 0 || (c == 76)
first c.Import c = c == 20
first c.ImportTail c = c == 0 || (c == 5 || (c == 34 || (c == 36 || (c == 76))))
first c.ImportSpec c = c == 0 || (c == 5 || (c == 34 || (c == 76)))
first c.Const c = c == 9
first c.ConstTail c = c == 0 || (c == 36 || (c == 76))
first c.ConstSpec c = c == 0 || (c == 76)
first c.ConstSpecTail c = c == 0 || (c == 8 || (c == 16 || ((nat_le 21 c && nat_le c 22) || (c == 27 || (c == 36 || (c == 38 || (c == 42 || (c == 46 || (c == 58 || (c == 76))))))))))
first c.Names c = c == 0 || (c == 76)
first c.NamesEnd c = false
first c.Exprs c = (nat_le 0 c && nat_le c 5) || (c == 8 || (c == 16 || ((nat_le 21 c && nat_le c 22) || (c == 27 || (c == 36 || (c == 38 || ((nat_le 46 c && nat_le c 49) || (c == 51 || (c == 58 || (c == 63 || (c == 70 || (c == 76))))))))))))
first c.ExprsEnd c = false
first c.Types c = c == 29
first c.TypesTail c = c == 0 || (c == 36 || (c == 76))
first c.TypeSpec c = c == 0 || (c == 76)
first c.TypeSpecTail c = c == 0 || (c == 8 || (c == 16 || ((nat_le 21 c && nat_le c 22) || (c == 27 || (c == 36 || (c == 38 || (c == 42 || (c == 46 || (c == 58 || (c == 76))))))))))
first c.Vars c = c == 30
first c.VarsTail c = c == 0 || (c == 36 || (c == 76))
first c.VarSpec c = c == 0 || (c == 76)
first c.VarSpecTail c = c == 0 || (c == 8 || (c == 16 || ((nat_le 21 c && nat_le c 22) || (c == 27 || (c == 36 || (c == 38 || (c == 42 || (c == 46 || (c == 58 || (c == 76))))))))))
first c.VarTypedTail c = c == 42
first c.Func c = c == 16
first c.FuncName c = c == 0 || (c == 36 || (c == 76))
first c.FuncBody c = c == 40
first c.MethodBody c = c == 40
first c.Params c = c == 36
first c.ParamsEnd c = c == 37
first c.ResultParams c = c == 36
first c.ResultsEnd c = c == 37
first c.Entry c = c == 0 || (c == 8 || (c == 16 || ((nat_le 21 c && nat_le c 22) || (c == 27 || ((nat_le 35 c && nat_le c 36) || (c == 38 || (c == 46 || (c == 58 || (c == 76)))))))))
first c.EntryTail c = c == 0 || (c == 8 || (c == 16 || ((nat_le 21 c && nat_le c 22) || (c == 27 || ((nat_le 35 c && nat_le c 36) || (c == 38 || (c == 46 || (c == 58 || (c == 76)))))))))
first c.Run c = c == 0 || (c == 8 || (c == 16 || ((nat_le 21 c && nat_le c 22) || (c == 27 || ((nat_le 35 c && nat_le c 36) || (c == 38 || (c == 46 || (c == 58 || (c == 76)))))))))
first c.Variadic c = c == 35
first c.RunEnd c = false
first c.Type c = c == 0 || (c == 8 || (c == 16 || ((nat_le 21 c && nat_le c 22) || (c == 27 || (c == 36 || (c == 38 || (c == 46 || (c == 58 || (c == 76)))))))))
first c.ChanElem c = c == 0 || (c == 8 || (c == 16 || ((nat_le 21 c && nat_le c 22) || (c == 27 || (c == 36 || (c == 38 || (c == 58 || (c == 76))))))))
first c.PlainType c = c == 0 || (c == 8 || (c == 16 || ((nat_le 21 c && nat_le c 22) || (c == 27 || (c == 38 || (c == 46 || (c == 58 || (c == 76))))))))
first c.NameTail c = c == 34
first c.BracketTail c = (nat_le 0 c && nat_le c 5) || (c == 8 || (c == 16 || ((nat_le 21 c && nat_le c 22) || (c == 27 || (c == 36 || ((nat_le 38 c && nat_le c 39) || ((nat_le 46 c && nat_le c 49) || (c == 51 || (c == 58 || (c == 63 || (c == 70 || (c == 76))))))))))))
first c.ChanTail c = c == 0 || (c == 8 || (c == 16 || ((nat_le 21 c && nat_le c 22) || (c == 27 || (c == 36 || (c == 38 || (c == 46 || (c == 58 || (c == 76)))))))))
first c.TypeName c = c == 0 || (c == 76)
first c.Field c = c == 0 || (c == 58 || (c == 76))
first c.FieldHead c = c == 0 || (c == 76)
first c.FieldHeadEnd c = c == 34
first c.FieldTail c = c == 0 || (c == 5 || (c == 8 || (c == 16 || ((nat_le 21 c && nat_le c 22) || (c == 27 || (c == 36 || (c == 38 || (c == 46 || (c == 58 || (c == 76))))))))))
first c.Elem c = c == 0 || (c == 76)
first c.BlankElemTail c = c == 34
first c.ElemTail c = c == 34 || (c == 36)
first c.Value c = c == 40
first c.Item c = (nat_le 0 c && nat_le c 5) || (c == 8 || (c == 16 || ((nat_le 21 c && nat_le c 22) || (c == 27 || (c == 36 || (c == 38 || (c == 40 || ((nat_le 46 c && nat_le c 49) || (c == 51 || (c == 58 || (c == 63 || (c == 70 || (c == 76)))))))))))))
first c.ItemTail c = c == 33
first c.LitTail c = c == 40
first c.FuncTail c = c == 40
first c.StructType c = c == 27
first c.MapType c = c == 22
first c.BracketType c = c == 38
first c.DotsType c = c == 70
first c.Block c = c == 40
first c.List c = (nat_le 0 c && nat_le c 6) || ((nat_le 8 c && nat_le c 10) || (c == 12 || ((nat_le 14 c && nat_le c 19) || ((nat_le 21 c && nat_le c 22) || ((nat_le 25 c && nat_le c 31) || (c == 36 || (c == 38 || (c == 40 || ((nat_le 46 c && nat_le c 49) || (c == 51 || (c == 58 || (c == 63 || (c == 70 || (c == 76))))))))))))))
first c.AfterStatement c = c == 31
first c.Go c = c == 17
first c.Defer c = c == 12
first c.Return c = c == 25
first c.Break c = c == 6
first c.Continue c = c == 10
first c.Goto c = c == 18
first c.Fallthrough c = c == 14
first c.Left c = (nat_le 0 c && nat_le c 5) || (c == 8 || (c == 16 || ((nat_le 21 c && nat_le c 22) || (c == 27 || (c == 36 || (c == 38 || ((nat_le 46 c && nat_le c 49) || (c == 51 || (c == 58 || (c == 63 || (c == 70 || (c == 76))))))))))))
first c.LeftEnd c = false
first c.Simple c = (nat_le 0 c && nat_le c 5) || (c == 8 || (c == 16 || ((nat_le 21 c && nat_le c 22) || (c == 27 || (c == 36 || (c == 38 || ((nat_le 46 c && nat_le c 49) || (c == 51 || (c == 58 || (c == 63 || (c == 70 || (c == 76))))))))))))
first c.SimpleTail c = c == 33 || ((nat_le 42 c && nat_le c 46) || (c == 67))
first c.CommSimple c = (nat_le 0 c && nat_le c 5) || (c == 8 || (c == 16 || ((nat_le 21 c && nat_le c 22) || (c == 27 || (c == 36 || (c == 38 || ((nat_le 46 c && nat_le c 49) || (c == 51 || (c == 58 || (c == 63 || (c == 70 || (c == 76))))))))))))
first c.CommTail c = (nat_le 42 c && nat_le c 46) || (c == 67)
first c.HeadLeft c = (nat_le 0 c && nat_le c 5) || (c == 8 || (c == 16 || ((nat_le 21 c && nat_le c 22) || (c == 27 || (c == 36 || (c == 38 || ((nat_le 46 c && nat_le c 49) || (c == 51 || (c == 58 || (c == 63 || (c == 70 || (c == 76))))))))))))
first c.HeadLeftEnd c = false
first c.HeadExprs c = (nat_le 0 c && nat_le c 5) || (c == 8 || (c == 16 || ((nat_le 21 c && nat_le c 22) || (c == 27 || (c == 36 || (c == 38 || ((nat_le 46 c && nat_le c 49) || (c == 51 || (c == 58 || (c == 63 || (c == 70 || (c == 76))))))))))))
first c.HeadExprsEnd c = false
first c.HeadSimple c = (nat_le 0 c && nat_le c 5) || (c == 8 || (c == 16 || ((nat_le 21 c && nat_le c 22) || (c == 27 || (c == 36 || (c == 38 || ((nat_le 46 c && nat_le c 49) || (c == 51 || (c == 58 || (c == 63 || (c == 70 || (c == 76))))))))))))
first c.HeadTail c = (nat_le 42 c && nat_le c 46) || (c == 67)
first c.Bound c = (nat_le 0 c && nat_le c 5) || (c == 8 || (c == 16 || ((nat_le 21 c && nat_le c 22) || (c == 27 || (c == 36 || (c == 38 || ((nat_le 46 c && nat_le c 49) || (c == 51 || (c == 58 || (c == 63 || (c == 70 || (c == 76))))))))))))
first c.BoundEnd c = false
first c.DefineEnd c = false
first c.Post c = (nat_le 0 c && nat_le c 5) || (c == 8 || (c == 16 || ((nat_le 21 c && nat_le c 22) || (c == 27 || (c == 36 || (c == 38 || ((nat_le 46 c && nat_le c 49) || (c == 51 || (c == 58 || (c == 63 || (c == 70 || (c == 76))))))))))))
first c.PostSimple c = (nat_le 0 c && nat_le c 5) || (c == 8 || (c == 16 || ((nat_le 21 c && nat_le c 22) || (c == 27 || (c == 36 || (c == 38 || ((nat_le 46 c && nat_le c 49) || (c == 51 || (c == 58 || (c == 63 || (c == 70 || (c == 76))))))))))))
first c.HeadExprs2 c = (nat_le 0 c && nat_le c 5) || (c == 8 || (c == 16 || ((nat_le 21 c && nat_le c 22) || (c == 27 || (c == 36 || (c == 38 || ((nat_le 46 c && nat_le c 49) || (c == 51 || (c == 58 || (c == 63 || (c == 70 || (c == 76))))))))))))
first c.PostLeftEnd c = false
first c.PostTail c = c == 42 || ((nat_le 44 c && nat_le c 46) || (c == 67))
first c.If c = c == 19
first c.IfTail c = c == 31 || (c == 40)
first c.Otherwise c = c == 13
first c.Switch c = c == 28
first c.SwitchTail c = c == 31 || (c == 40)
first c.SwitchEnd c = c == 40
first c.Subject1 c = (nat_le 0 c && nat_le c 5) || (c == 8 || (c == 16 || ((nat_le 21 c && nat_le c 22) || (c == 27 || (c == 36 || (c == 38 || ((nat_le 46 c && nat_le c 49) || (c == 51 || (c == 58 || (c == 63 || (c == 70 || (c == 76))))))))))))
first c.SubjectTail c = c == 43
first c.SubjectEnd c = false
first c.CaseClause c = c == 7 || (c == 11)
first c.TypeClause c = c == 7 || (c == 11)
first c.TypeList c = c == 0 || (c == 8 || (c == 16 || ((nat_le 21 c && nat_le c 22) || (c == 27 || (c == 36 || (c == 38 || (c == 46 || (c == 58 || (c == 76)))))))))
first c.TypeListEnd c = false
first c.Select c = c == 26
first c.CommClause c = c == 7 || (c == 11)
first c.For c = c == 15
first c.ForTail c = c == 24 || (c == 31 || (c == 40 || ((nat_le 71 c && nat_le c 72))))
first c.Cond c = (nat_le 0 c && nat_le c 5) || (c == 8 || (c == 16 || ((nat_le 21 c && nat_le c 22) || (c == 27 || (c == 36 || (c == 38 || ((nat_le 46 c && nat_le c 49) || (c == 51 || (c == 58 || (c == 63 || (c == 70 || (c == 76))))))))))))
first c.IndexTail c = (nat_le 0 c && nat_le c 5) || (c == 8 || (c == 16 || ((nat_le 21 c && nat_le c 22) || (c == 27 || (c == 33 || (c == 36 || (c == 38 || ((nat_le 46 c && nat_le c 49) || (c == 51 || (c == 58 || (c == 63 || (c == 70 || (c == 76)))))))))))))
first c.IndexEnd c = c == 33 || (c == 39)
first c.SliceLow c = (nat_le 0 c && nat_le c 5) || (c == 8 || (c == 16 || ((nat_le 21 c && nat_le c 22) || (c == 27 || (c == 36 || ((nat_le 38 c && nat_le c 39) || ((nat_le 46 c && nat_le c 49) || (c == 51 || (c == 58 || (c == 63 || (c == 70 || (c == 76))))))))))))
first c.SliceLowHigh c = c == 33 || (c == 39)
first c.SliceTail c = (nat_le 0 c && nat_le c 5) || (c == 8 || (c == 16 || ((nat_le 21 c && nat_le c 22) || (c == 27 || (c == 36 || ((nat_le 38 c && nat_le c 39) || ((nat_le 46 c && nat_le c 49) || (c == 51 || (c == 58 || (c == 63 || (c == 70 || (c == 76))))))))))))
first c.SliceHigh c = c == 33 || (c == 39)
first c.CallTail c = (nat_le 0 c && nat_le c 5) || (c == 8 || (c == 16 || ((nat_le 21 c && nat_le c 22) || (c == 27 || ((nat_le 36 c && nat_le c 38) || ((nat_le 46 c && nat_le c 49) || (c == 51 || (c == 58 || (c == 63 || (c == 70 || (c == 76)))))))))))
first c.CallEnd c = c == 35 || (c == 37 || (c == 73))

unfoldable pub nullable : Category → Bool
nullable c.ImportSpecs = true
nullable c.MoreImportSpecs = true
nullable c.ConstSpecs = true
nullable c.MoreConstSpecs = true
nullable c.MoreNames = true
nullable c.MoreExprs = true
nullable c.TypeSpecs = true
nullable c.MoreTypeSpecs = true
nullable c.VarSpecs = true
nullable c.MoreVarSpecs = true
nullable c.Results = true
nullable c.Entries = true
nullable c.MoreEntries = true
nullable c.TrailingComma = true
nullable c.MoreRun = true
nullable c.Fields = true
nullable c.MoreFields = true
nullable c.Tag = true
nullable c.Elems = true
nullable c.MoreElems = true
nullable c.Items = true
nullable c.MoreItems = true
nullable c.Statements = true
nullable c.Values = true
nullable c.Target = true
nullable c.Labeled = true
nullable c.MoreHeadExprs = true
nullable c.Init = true
nullable c.Subject = true
nullable c.Clauses = true
nullable c.TypeClauses = true
nullable c.MoreTypes = true
nullable c.CommClauses = true
nullable c.Comm = true
nullable c.Condition = true
nullable c.PostPart = true
nullable c.ConstSpecTail = true
nullable c.NamesEnd = true
nullable c.ExprsEnd = true
nullable c.VarTypedTail = true
nullable c.FuncBody = true
nullable c.MethodBody = true
nullable c.EntryTail = true
nullable c.RunEnd = true
nullable c.NameTail = true
nullable c.FieldHeadEnd = true
nullable c.FieldTail = true
nullable c.BlankElemTail = true
nullable c.ElemTail = true
nullable c.ItemTail = true
nullable c.LitTail = true
nullable c.FuncTail = true
nullable c.List = true
nullable c.AfterStatement = true
nullable c.LeftEnd = true
nullable c.SimpleTail = true
nullable c.CommTail = true
nullable c.HeadLeftEnd = true
nullable c.HeadExprsEnd = true
nullable c.HeadTail = true
nullable c.BoundEnd = true
nullable c.DefineEnd = true
nullable c.PostLeftEnd = true
nullable c.PostTail = true
nullable c.Otherwise = true
nullable c.SubjectTail = true
nullable c.SubjectEnd = true
nullable c.TypeListEnd = true
nullable _ = false

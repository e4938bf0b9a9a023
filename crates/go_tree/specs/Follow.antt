-- Which classes of token may follow a category.
use Rattle.std.specs.Prelude.{ℕ, Bool, true, ◌==◌, ◌||◌, ◌&&◌, nat_le}
use Rattle.go_tree.specs.declared.grammar.Category.{Category}
use Rattle.go_tree.specs.declared.grammar.Category.TheVariants as c

unfoldable pub follow : Category → ℕ → Bool
follow c.ClausePiece c = c == 75
follow c.TopPiece c = c == 75
follow c.ImportSpecs c = c == 37
follow c.MoreImportSpecs c = c == 37
follow c.Declaration c = c == 75
follow c.ConstSpecs c = c == 37
follow c.MoreConstSpecs c = c == 37
follow c.MoreNames c = c == 0 || (c == 5 || ((nat_le 7 c && nat_le c 8) || (c == 11 || (c == 16 || ((nat_le 21 c && nat_le c 22) || (c == 27 || (c == 31 || (c == 34 || ((nat_le 36 c && nat_le c 38) || ((nat_le 41 c && nat_le c 42) || (c == 46 || (c == 58 || ((nat_le 75 c && nat_le c 76))))))))))))))
follow c.MoreExprs c = c == 7 || (c == 11 || (c == 31 || (c == 33 || (c == 35 || (c == 37 || ((nat_le 41 c && nat_le c 46) || (c == 67 || (c == 73 || (c == 75)))))))))
follow c.TypeSpecs c = c == 37
follow c.MoreTypeSpecs c = c == 37
follow c.VarSpecs c = c == 37
follow c.MoreVarSpecs c = c == 37
follow c.Signature c = true
follow c.Results c = true
follow c.Entries c = c == 37
follow c.MoreEntries c = c == 37 || (c == 73)
follow c.TrailingComma c = c == 37
follow c.RunItem c = c == 0 || (c == 8 || (c == 16 || ((nat_le 21 c && nat_le c 22) || (c == 27 || (c == 32 || ((nat_le 35 c && nat_le c 38) || (c == 46 || (c == 58 || (c == 73 || (c == 76))))))))))
follow c.MoreRun c = c == 0 || (c == 8 || (c == 16 || ((nat_le 21 c && nat_le c 22) || (c == 27 || (c == 32 || ((nat_le 35 c && nat_le c 38) || (c == 46 || (c == 58 || (c == 73 || (c == 76))))))))))
follow c.Fields c = c == 41
follow c.MoreFields c = c == 41
follow c.Tag c = c == 31 || (c == 41)
follow c.Elems c = c == 41
follow c.MoreElems c = c == 41
follow c.Items c = c == 41
follow c.MoreItems c = c == 41
follow c.Element c = (nat_le 32 c && nat_le c 33) || (c == 41)
follow c.Statements c = c == 7 || (c == 11 || (c == 41))
follow c.Statement c = c == 7 || (c == 11 || (c == 31 || (c == 41)))
follow c.Values c = c == 7 || (c == 11 || (c == 31 || (c == 41)))
follow c.Target c = c == 7 || (c == 11 || (c == 31 || (c == 41)))
follow c.Labeled c = c == 7 || (c == 11 || (c == 31 || (c == 41)))
follow c.MoreHeadExprs c = c == 24 || (c == 31 || (c == 40 || ((nat_le 42 c && nat_le c 46) || (c == 67 || ((nat_le 71 c && nat_le c 72))))))
follow c.Init c = c == 24 || (c == 31 || (c == 40 || ((nat_le 71 c && nat_le c 72))))
follow c.Branch c = c == 7 || (c == 11 || (c == 31 || (c == 41)))
follow c.Subject c = c == 40
follow c.Clauses c = c == 41
follow c.TypeClauses c = c == 41
follow c.MoreTypes c = c == 33
follow c.CommClauses c = c == 41
follow c.Comm c = c == 33
follow c.Condition c = c == 31
follow c.PostPart c = c == 40
follow c.Clause c = c == 31 || (c == 75)
follow c.NamedIdent c = c == 31 || (c == 34 || (c == 36 || (c == 41 || (c == 75))))
follow c.BlankIdent c = c == 31 || (c == 34 || (c == 41))
follow c.Ident c = true
follow c.Import c = c == 75
follow c.ImportTail c = c == 75
follow c.ImportSpec c = c == 31 || (c == 37 || (c == 75))
follow c.Const c = c == 7 || (c == 11 || (c == 31 || (c == 41 || (c == 75))))
follow c.ConstTail c = c == 7 || (c == 11 || (c == 31 || (c == 41 || (c == 75))))
follow c.ConstSpec c = c == 7 || (c == 11 || (c == 31 || (c == 37 || (c == 41 || (c == 75)))))
follow c.ConstSpecTail c = c == 7 || (c == 11 || (c == 31 || (c == 37 || (c == 41 || (c == 75)))))
follow c.Names c = c == 0 || ((nat_le 7 c && nat_le c 8) || (c == 11 || (c == 16 || ((nat_le 21 c && nat_le c 22) || (c == 27 || (c == 31 || ((nat_le 36 c && nat_le c 38) || ((nat_le 41 c && nat_le c 42) || (c == 46 || (c == 58 || ((nat_le 75 c && nat_le c 76))))))))))))
follow c.NamesEnd c = c == 0 || ((nat_le 7 c && nat_le c 8) || (c == 11 || (c == 16 || ((nat_le 21 c && nat_le c 22) || (c == 27 || (c == 31 || ((nat_le 36 c && nat_le c 38) || ((nat_le 41 c && nat_le c 42) || (c == 46 || (c == 58 || ((nat_le 75 c && nat_le c 76))))))))))))
follow c.Exprs c = c == 7 || (c == 11 || (c == 31 || (c == 33 || (c == 37 || (c == 41 || (c == 75))))))
follow c.ExprsEnd c = c == 7 || (c == 11 || (c == 31 || (c == 33 || (c == 37 || (c == 41 || (c == 75))))))
follow c.Types c = c == 7 || (c == 11 || (c == 31 || (c == 41 || (c == 75))))
follow c.TypesTail c = c == 7 || (c == 11 || (c == 31 || (c == 41 || (c == 75))))
follow c.TypeSpec c = c == 7 || (c == 11 || (c == 31 || (c == 37 || (c == 41 || (c == 75)))))
follow c.TypeSpecTail c = c == 7 || (c == 11 || (c == 31 || (c == 37 || (c == 41 || (c == 75)))))
follow c.Vars c = c == 7 || (c == 11 || (c == 31 || (c == 41 || (c == 75))))
follow c.VarsTail c = c == 7 || (c == 11 || (c == 31 || (c == 41 || (c == 75))))
follow c.VarSpec c = c == 7 || (c == 11 || (c == 31 || (c == 37 || (c == 41 || (c == 75)))))
follow c.VarSpecTail c = c == 7 || (c == 11 || (c == 31 || (c == 37 || (c == 41 || (c == 75)))))
follow c.VarTypedTail c = c == 7 || (c == 11 || (c == 31 || (c == 37 || (c == 41 || (c == 75)))))
follow c.Func c = c == 75
follow c.FuncName c = c == 75
follow c.FuncBody c = c == 75
follow c.MethodBody c = c == 75
follow c.Params c = true
follow c.ParamsEnd c = true
follow c.ResultParams c = true
follow c.ResultsEnd c = true
follow c.Entry c = c == 32 || (c == 37 || (c == 73))
follow c.EntryTail c = c == 32 || (c == 37 || (c == 73))
follow c.Run c = c == 0 || (c == 8 || (c == 16 || ((nat_le 21 c && nat_le c 22) || (c == 27 || (c == 32 || ((nat_le 35 c && nat_le c 38) || (c == 46 || (c == 58 || (c == 73 || (c == 76))))))))))
follow c.Variadic c = c == 0 || (c == 8 || (c == 16 || ((nat_le 21 c && nat_le c 22) || (c == 27 || (c == 32 || ((nat_le 35 c && nat_le c 38) || (c == 46 || (c == 58 || (c == 73 || (c == 76))))))))))
follow c.RunEnd c = c == 0 || (c == 8 || (c == 16 || ((nat_le 21 c && nat_le c 22) || (c == 27 || (c == 32 || ((nat_le 35 c && nat_le c 38) || (c == 46 || (c == 58 || (c == 73 || (c == 76))))))))))
follow c.Type c = true
follow c.ChanElem c = true
follow c.PlainType c = true
follow c.NameTail c = true
follow c.BracketTail c = true
follow c.ChanTail c = true
follow c.TypeName c = true
follow c.Field c = c == 31 || (c == 41)
follow c.FieldHead c = c == 0 || (c == 5 || (c == 8 || (c == 16 || ((nat_le 21 c && nat_le c 22) || (c == 27 || (c == 31 || (c == 36 || (c == 38 || (c == 41 || (c == 46 || (c == 58 || (c == 76))))))))))))
follow c.FieldHeadEnd c = c == 0 || (c == 5 || (c == 8 || (c == 16 || ((nat_le 21 c && nat_le c 22) || (c == 27 || (c == 31 || (c == 36 || (c == 38 || (c == 41 || (c == 46 || (c == 58 || (c == 76))))))))))))
follow c.FieldTail c = c == 31 || (c == 41)
follow c.Elem c = c == 31 || (c == 41)
follow c.BlankElemTail c = c == 31 || (c == 41)
follow c.ElemTail c = c == 31 || (c == 41)
follow c.Value c = true
follow c.Item c = c == 32 || (c == 41)
follow c.ItemTail c = c == 32 || (c == 41)
follow c.LitTail c = true
follow c.FuncTail c = true
follow c.StructType c = true
follow c.MapType c = true
follow c.BracketType c = true
follow c.DotsType c = c == 40
follow c.Block c = true
follow c.List c = c == 7 || (c == 11 || (c == 41))
follow c.AfterStatement c = c == 7 || (c == 11 || (c == 41))
follow c.Go c = c == 7 || (c == 11 || (c == 31 || (c == 41)))
follow c.Defer c = c == 7 || (c == 11 || (c == 31 || (c == 41)))
follow c.Return c = c == 7 || (c == 11 || (c == 31 || (c == 41)))
follow c.Break c = c == 7 || (c == 11 || (c == 31 || (c == 41)))
follow c.Continue c = c == 7 || (c == 11 || (c == 31 || (c == 41)))
follow c.Goto c = c == 7 || (c == 11 || (c == 31 || (c == 41)))
follow c.Fallthrough c = c == 7 || (c == 11 || (c == 31 || (c == 41)))
follow c.Left c = c == 7 || (c == 11 || (c == 31 || (c == 33 || ((nat_le 41 c && nat_le c 46) || (c == 67)))))
follow c.LeftEnd c = c == 7 || (c == 11 || (c == 31 || (c == 33 || ((nat_le 41 c && nat_le c 46) || (c == 67)))))
follow c.Simple c = c == 7 || (c == 11 || (c == 31 || (c == 41)))
follow c.SimpleTail c = c == 7 || (c == 11 || (c == 31 || (c == 41)))
follow c.CommSimple c = c == 33
follow c.CommTail c = c == 33
follow c.HeadLeft c = c == 24 || (c == 31 || (c == 40 || ((nat_le 42 c && nat_le c 46) || (c == 67 || ((nat_le 71 c && nat_le c 72))))))
follow c.HeadLeftEnd c = c == 24 || (c == 31 || (c == 40 || ((nat_le 42 c && nat_le c 46) || (c == 67 || ((nat_le 71 c && nat_le c 72))))))
follow c.HeadExprs c = c == 24 || (c == 31 || (c == 40 || ((nat_le 71 c && nat_le c 72))))
follow c.HeadExprsEnd c = c == 24 || (c == 31 || (c == 40 || ((nat_le 71 c && nat_le c 72))))
follow c.HeadSimple c = c == 24 || (c == 31 || (c == 40 || ((nat_le 71 c && nat_le c 72))))
follow c.HeadTail c = c == 24 || (c == 31 || (c == 40 || ((nat_le 71 c && nat_le c 72))))
follow c.Bound c = c == 24 || (c == 31 || (c == 40 || ((nat_le 71 c && nat_le c 72))))
follow c.BoundEnd c = c == 24 || (c == 31 || (c == 40 || ((nat_le 71 c && nat_le c 72))))
follow c.DefineEnd c = c == 24 || (c == 31 || (c == 40 || ((nat_le 71 c && nat_le c 72))))
follow c.Post c = c == 40
follow c.PostSimple c = c == 40
follow c.HeadExprs2 c = c == 40 || (c == 42 || ((nat_le 44 c && nat_le c 46) || (c == 67)))
follow c.PostLeftEnd c = c == 40 || (c == 42 || ((nat_le 44 c && nat_le c 46) || (c == 67)))
follow c.PostTail c = c == 40
follow c.If c = c == 7 || (c == 11 || (c == 31 || (c == 41)))
follow c.IfTail c = c == 7 || (c == 11 || (c == 31 || (c == 41)))
follow c.Otherwise c = c == 7 || (c == 11 || (c == 31 || (c == 41)))
follow c.Switch c = c == 7 || (c == 11 || (c == 31 || (c == 41)))
follow c.SwitchTail c = c == 7 || (c == 11 || (c == 31 || (c == 41)))
follow c.SwitchEnd c = c == 7 || (c == 11 || (c == 31 || (c == 41)))
follow c.Subject1 c = c == 40
follow c.SubjectTail c = c == 40
follow c.SubjectEnd c = c == 40
follow c.CaseClause c = c == 7 || (c == 11 || (c == 41))
follow c.TypeClause c = c == 7 || (c == 11 || (c == 41))
follow c.TypeList c = c == 33
follow c.TypeListEnd c = c == 33
follow c.Select c = c == 7 || (c == 11 || (c == 31 || (c == 41)))
follow c.CommClause c = c == 7 || (c == 11 || (c == 41))
follow c.For c = c == 7 || (c == 11 || (c == 31 || (c == 41)))
follow c.ForTail c = c == 7 || (c == 11 || (c == 31 || (c == 41)))
follow c.Cond c = c == 31
follow c.IndexTail c = true
follow c.IndexEnd c = true
follow c.SliceLow c = true
follow c.SliceLowHigh c = true
follow c.SliceTail c = true
follow c.SliceHigh c = true
follow c.CallTail c = true
follow c.CallEnd c = true

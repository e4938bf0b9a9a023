-- Which classes of token each terminal of the grammar admits.
use Rattle.std.specs.Prelude.{ℕ, Bool, true, ◌==◌, ◌||◌, ◌&&◌, nat_le, nat_lt, not}
use Rattle.go_tree.specs.declared.grammar.Terminal.{Terminal}
use Rattle.go_tree.specs.declared.grammar.Terminal.TheVariants as t
use Rattle.go_tree.specs.Classes.{level_of}

abbrev pub admits : Terminal → ℕ → Bool
admits t.Name c = c == 0 || (c == 76)
admits t.Int c = c == 1
admits t.Float c = c == 2
admits t.Imag c = c == 3
admits t.Rune c = c == 4
admits t.Text c = c == 5
admits t.Break c = c == 6
admits t.Case c = c == 7
admits t.Chan c = c == 8
admits t.Const c = c == 9
admits t.Continue c = c == 10
admits t.Default c = c == 11
admits t.Defer c = c == 12
admits t.Else c = c == 13
admits t.Fallthrough c = c == 14
admits t.For c = c == 15
admits t.Func c = c == 16
admits t.Go c = c == 17
admits t.Goto c = c == 18
admits t.If c = c == 19
admits t.Import c = c == 20
admits t.Interface c = c == 21
admits t.Map c = c == 22
admits t.Package c = c == 23
admits t.Range c = c == 24
admits t.Return c = c == 25
admits t.Select c = c == 26
admits t.Struct c = c == 27
admits t.Switch c = c == 28
admits t.Type c = c == 29
admits t.Var c = c == 30
admits t.Semi c = c == 31
admits t.Comma c = c == 32
admits t.Colon c = c == 33
admits t.Dot c = c == 34
admits t.Ellipsis c = c == 35
admits t.LeftParen c = c == 36
admits t.RightParen c = c == 37
admits t.LeftBracket c = c == 38
admits t.RightBracket c = c == 39
admits t.LeftBrace c = c == 40
admits t.RightBrace c = c == 41
admits t.Assign c = c == 42
admits t.Define c = c == 43
admits t.Increment c = c == 44
admits t.Decrement c = c == 45
admits t.Arrow c = c == 46
admits t.Star c = c == 58
admits t.OpAssign c = c == 67
admits t.DotParen c = c == 68
admits t.DotType c = c == 69
admits t.BracketDots c = c == 70
admits t.DefineRange c = c == 71
admits t.AssignRange c = c == 72
admits t.CommaParen c = c == 73
admits t.Sign c = (nat_le 46 c && nat_le c 49) || (c == 51 || (c == 63))
admits t.Named c = c == 0
admits t.Blank c = c == 76
admits t.Anything c = true
admits t.DefineLike c = c == 43 || (c == 71)
admits t.NotDefine c = not (c == 43 || (c == 71))
admits t.AssignLike c = c == 42 || (c == 67 || (c == 72))
admits t.NotDot c = not (c == 34)
admits t.NotBrace c = not (c == 40)
admits t.TypeStart c = c == 0 || (c == 8 || (c == 16 || ((nat_le 21 c && nat_le c 22) || (c == 27 || (c == 36 || (c == 38 || (c == 46 || (c == 58 || (c == 76)))))))))
admits t.NoType c = not (c == 0 || (c == 8 || (c == 16 || ((nat_le 21 c && nat_le c 22) || (c == 27 || ((nat_le 35 c && nat_le c 36) || (c == 38 || (c == 46 || (c == 58 || (c == 76))))))))))
admits t.NotTypeStart c = not (c == 0 || (c == 8 || (c == 16 || ((nat_le 21 c && nat_le c 22) || (c == 27 || (c == 36 || (c == 38 || (c == 46 || (c == 58 || (c == 76))))))))))
admits t.NamesBefore c = c == 0 || (c == 8 || (c == 16 || ((nat_le 21 c && nat_le c 22) || (c == 27 || ((nat_le 35 c && nat_le c 36) || (c == 38 || (c == 46 || (c == 58 || (c == 76)))))))))
admits t.HeadEnd c = c == 31 || (c == 40)
admits (t.Operator l) c = nat_lt 1 l && (nat_lt l 7 && (level_of c == l))

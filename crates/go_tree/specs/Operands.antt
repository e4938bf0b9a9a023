-- The grammar's rules of operands: how an operand begins, and how it goes on.
use Rattle.std.specs.Prelude.{List, [], ◌∷◌}
use Rattle.go_tree.specs.declared.grammar.Category.TheVariants as c
use Rattle.go_tree.specs.declared.grammar.Terminal.TheVariants as t
use Rattle.go_tree.specs.declared.grammar.Ending.TheVariants.{Is, Bare, Tail}
use Rattle.go_tree.specs.declared.tree.NodeKind.TheVariants as k
use Rattle.go_tree.specs.declared.grammar.Setting.{Setting}
use Rattle.go_tree.specs.declared.grammar.Symbol.TheVariants.{Token, Part, Inline, Operand}
use Rattle.go_tree.specs.declared.grammar.Setting.TheVariants as m
use Rattle.go_tree.specs.Rule.{Rule, rule}

unfoldable pub prefixes : Setting → List Rule
prefixes m.Free =
    rule (Tail c.LitTail) 8 0 (Part c.TypeName ∷ [])
    ∷ rule (Is k.Int) 8 0 (Token t.Int ∷ [])
    ∷ rule (Is k.Float) 8 0 (Token t.Float ∷ [])
    ∷ rule (Is k.Imag) 8 0 (Token t.Imag ∷ [])
    ∷ rule (Is k.Rune) 8 0 (Token t.Rune ∷ [])
    ∷ rule (Is k.Text) 8 0 (Token t.Text ∷ [])
    ∷ rule (Is k.Paren) 8 0 (Token t.LeftParen ∷ Operand 2 m.Free ∷ Token t.RightParen ∷ [])
    ∷ rule (Is k.Unary) 7 0 (Token t.Sign ∷ Operand 7 m.Free ∷ [])
    ∷ rule (Is k.Star) 7 0 (Token t.Star ∷ Operand 7 m.Free ∷ [])
    ∷ rule (Tail c.LitTail) 8 0 (Part c.BracketType ∷ [])
    ∷ rule (Is k.Composite) 8 0 (Part c.DotsType ∷ Part c.Value ∷ [])
    ∷ rule (Tail c.LitTail) 8 0 (Part c.MapType ∷ [])
    ∷ rule (Tail c.LitTail) 8 0 (Part c.StructType ∷ [])
    ∷ rule (Is k.InterfaceType) 8 0 (Token t.Interface ∷ Token t.LeftBrace ∷ Inline c.Elems ∷ Token t.RightBrace ∷ [])
    ∷ rule (Tail c.ChanTail) 8 0 (Token t.Chan ∷ [])
    ∷ rule (Tail c.FuncTail) 8 0 (Token t.Func ∷ Inline c.Signature ∷ [])
    ∷ []
prefixes m.Header =
    rule Bare 8 0 (Part c.TypeName ∷ [])
    ∷ rule (Is k.Int) 8 0 (Token t.Int ∷ [])
    ∷ rule (Is k.Float) 8 0 (Token t.Float ∷ [])
    ∷ rule (Is k.Imag) 8 0 (Token t.Imag ∷ [])
    ∷ rule (Is k.Rune) 8 0 (Token t.Rune ∷ [])
    ∷ rule (Is k.Text) 8 0 (Token t.Text ∷ [])
    ∷ rule (Is k.Paren) 8 0 (Token t.LeftParen ∷ Operand 2 m.Free ∷ Token t.RightParen ∷ [])
    ∷ rule (Is k.Unary) 7 0 (Token t.Sign ∷ Operand 7 m.Header ∷ [])
    ∷ rule (Is k.Star) 7 0 (Token t.Star ∷ Operand 7 m.Header ∷ [])
    ∷ rule (Tail c.LitTail) 8 0 (Part c.BracketType ∷ [])
    ∷ rule (Is k.Composite) 8 0 (Part c.DotsType ∷ Part c.Value ∷ [])
    ∷ rule (Tail c.LitTail) 8 0 (Part c.MapType ∷ [])
    ∷ rule (Tail c.LitTail) 8 0 (Part c.StructType ∷ [])
    ∷ rule (Is k.InterfaceType) 8 0 (Token t.Interface ∷ Token t.LeftBrace ∷ Inline c.Elems ∷ Token t.RightBrace ∷ [])
    ∷ rule (Tail c.ChanTail) 8 0 (Token t.Chan ∷ [])
    ∷ rule (Tail c.FuncTail) 8 0 (Token t.Func ∷ Inline c.Signature ∷ [])
    ∷ []

unfoldable pub suffixes : Setting → List Rule
suffixes m.Free =
    rule (Is k.Binary) 2 2 (Token (t.Operator 2) ∷ Operand 3 m.Free ∷ [])
    ∷ rule (Is k.Binary) 3 3 (Token (t.Operator 3) ∷ Operand 4 m.Free ∷ [])
    ∷ rule (Is k.Binary) 4 4 (Token (t.Operator 4) ∷ Operand 5 m.Free ∷ [])
    ∷ rule (Is k.Binary) 5 5 (Token (t.Operator 5) ∷ Operand 6 m.Free ∷ [])
    ∷ rule (Is k.Binary) 6 6 (Token (t.Operator 6) ∷ Operand 7 m.Free ∷ [])
    ∷ rule (Is k.Selector) 8 8 (Token t.Dot ∷ Token t.Name ∷ [])
    ∷ rule (Is k.Assert) 8 8 (Token t.DotParen ∷ Token t.LeftParen ∷ Part c.Type ∷ Token t.RightParen ∷ [])
    ∷ rule (Is k.TypeGuard) 1 8 (Token t.DotType ∷ Token t.LeftParen ∷ Token t.Type ∷ Token t.RightParen ∷ [])
    ∷ rule (Tail c.IndexTail) 8 8 (Token t.LeftBracket ∷ [])
    ∷ rule (Tail c.CallTail) 8 8 (Token t.LeftParen ∷ [])
    ∷ []
suffixes m.Header =
    rule (Is k.Binary) 2 2 (Token (t.Operator 2) ∷ Operand 3 m.Header ∷ [])
    ∷ rule (Is k.Binary) 3 3 (Token (t.Operator 3) ∷ Operand 4 m.Header ∷ [])
    ∷ rule (Is k.Binary) 4 4 (Token (t.Operator 4) ∷ Operand 5 m.Header ∷ [])
    ∷ rule (Is k.Binary) 5 5 (Token (t.Operator 5) ∷ Operand 6 m.Header ∷ [])
    ∷ rule (Is k.Binary) 6 6 (Token (t.Operator 6) ∷ Operand 7 m.Header ∷ [])
    ∷ rule (Is k.Selector) 8 8 (Token t.Dot ∷ Token t.Name ∷ [])
    ∷ rule (Is k.Assert) 8 8 (Token t.DotParen ∷ Token t.LeftParen ∷ Part c.Type ∷ Token t.RightParen ∷ [])
    ∷ rule (Is k.TypeGuard) 1 8 (Token t.DotType ∷ Token t.LeftParen ∷ Token t.Type ∷ Token t.RightParen ∷ [])
    ∷ rule (Tail c.IndexTail) 8 8 (Token t.LeftBracket ∷ [])
    ∷ rule (Tail c.CallTail) 8 8 (Token t.LeftParen ∷ [])
    ∷ []

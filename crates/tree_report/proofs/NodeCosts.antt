-- How many nodes the grammar makes of tokens: at most three of each. A category costs what a rule of it may make beyond that.
use Rattle.std.proofs.Common.{◌≡◌, ℕ, suc, ◌+◌, ◌*◌, ◌≤◌, Bool, true, ◌&&◌, List, [], ◌∷◌, inl, inr, refl, subst, arith, nat_le, leb-true}
use Rattle.std.proofs.lemmas.Bool.{and_parts}
use Rattle.go_tree.specs.declared.grammar.Category.{Category}
use Rattle.go_tree.specs.declared.grammar.Category.TheVariants as c
use Rattle.go_tree.specs.declared.grammar.Ending.{Ending}
use Rattle.go_tree.specs.declared.grammar.Ending.TheVariants.{Is, Bare, Tail}
use Rattle.go_tree.specs.declared.grammar.Setting.{Setting}
use Rattle.go_tree.specs.declared.grammar.Setting.TheVariants as m
use Rattle.go_tree.specs.declared.grammar.Symbol.{Symbol}
use Rattle.go_tree.specs.declared.grammar.Symbol.TheVariants.{Token, Part, Inline, Operand}
use Rattle.go_tree.specs.Inlines.{inlines}
use Rattle.go_tree.specs.Nodes.{nodes}
use Rattle.go_tree.specs.Operands.{prefixes, suffixes}
use Rattle.go_tree.specs.Rule.{Rule}
use Rattle.go_tree.specs.Spells.{Among}

abbrev pub node_cost : Category → ℕ
node_cost c.ImportTail = 1
node_cost c.ConstTail = 3
node_cost c.ConstSpec = 2
node_cost c.ConstSpecTail = 1
node_cost c.Names = 1
node_cost c.NamesEnd = 1
node_cost c.Exprs = 2
node_cost c.ExprsEnd = 1
node_cost c.TypesTail = 2
node_cost c.TypeSpec = 1
node_cost c.TypeSpecTail = 1
node_cost c.VarsTail = 3
node_cost c.VarSpec = 2
node_cost c.VarSpecTail = 1
node_cost c.VarTypedTail = 1
node_cost c.FuncName = 1
node_cost c.FuncBody = 1
node_cost c.MethodBody = 1
node_cost c.Entry = 2
node_cost c.EntryTail = 1
node_cost c.Run = 1
node_cost c.RunEnd = 1
node_cost c.ChanTail = 1
node_cost c.Field = 2
node_cost c.FieldHead = 1
node_cost c.FieldHeadEnd = 1
node_cost c.FieldTail = 1
node_cost c.Elem = 1
node_cost c.ElemTail = 1
node_cost c.Item = 1
node_cost c.LitTail = 1
node_cost c.FuncTail = 1
node_cost c.List = 3
node_cost c.Left = 2
node_cost c.LeftEnd = 1
node_cost c.Simple = 2
node_cost c.CommSimple = 2
node_cost c.HeadLeft = 2
node_cost c.HeadLeftEnd = 1
node_cost c.HeadExprs = 2
node_cost c.HeadExprsEnd = 1
node_cost c.HeadSimple = 2
node_cost c.Bound = 2
node_cost c.BoundEnd = 1
node_cost c.DefineEnd = 1
node_cost c.Post = 3
node_cost c.PostSimple = 2
node_cost c.HeadExprs2 = 2
node_cost c.PostLeftEnd = 1
node_cost c.IfTail = 1
node_cost c.Otherwise = 1
node_cost c.Subject1 = 1
node_cost c.SubjectEnd = 1
node_cost c.TypeList = 1
node_cost c.TypeListEnd = 1
node_cost c.ForTail = 1
node_cost c.Cond = 2
node_cost c.IndexTail = 1
node_cost c.SliceLow = 1
node_cost c.SliceTail = 1
node_cost c.CallTail = 1
node_cost _ = 0

abbrev pub inline_cost : Category → ℕ
inline_cost c.ConstSpecs = 2
inline_cost c.TypeSpecs = 1
inline_cost c.VarSpecs = 2
inline_cost c.Entries = 2
inline_cost c.Fields = 2
inline_cost c.Elems = 1
inline_cost c.Items = 1
inline_cost c.Element = 1
inline_cost c.Statements = 2
inline_cost c.Statement = 2
inline_cost c.Values = 2
inline_cost c.Labeled = 2
inline_cost c.Init = 2
inline_cost c.Subject = 1
inline_cost c.Comm = 2
inline_cost c.Condition = 2
inline_cost c.PostPart = 3
inline_cost _ = 0

-- what symbols cost, and how many tokens they have
abbrev pub weight : List Symbol → ℕ
weight [] = 0
weight (Token t ∷ ss) = weight ss
weight (Part x ∷ ss) = node_cost x + weight ss
weight (Inline x ∷ ss) = inline_cost x + weight ss
weight (Operand p l ∷ ss) = suc (weight ss)

abbrev pub tokens_in : List Symbol → ℕ
tokens_in [] = 0
tokens_in (Token t ∷ ss) = suc (tokens_in ss)
tokens_in (Part x ∷ ss) = tokens_in ss
tokens_in (Inline x ∷ ss) = tokens_in ss
tokens_in (Operand p l ∷ ss) = tokens_in ss

abbrev pub end_cost : Ending → ℕ
end_cost (Is k) = 1
end_cost Bare = 0
end_cost (Tail x) = node_cost x

-- ---- no rule makes more

abbrev pays : ℕ → Rule → Bool
pays most r = nat_le (weight r.symbols + end_cost r.ending) (3 * tokens_in r.symbols + most)

abbrev pays_inline : ℕ → List Symbol → Bool
pays_inline most r = nat_le (weight r) (3 * tokens_in r + most)

abbrev all : {A : Type 0} → (A → Bool) → List A → Bool
all p [] = true
all p (x ∷ xs) = p x && all p xs

all_at : {A : Type 0} (p : A → Bool) (xs : List A) (x : A) → all p xs ≡ true → Among x xs → p x ≡ true
all_at p [] x h among = absurd among
all_at p (y ∷ ys) x h (inl same) = subst (λ z. p z ≡ true) same (and_parts (p y) (all p ys) h).0
all_at p (y ∷ ys) x h (inr later) = all_at p ys x (and_parts (p y) (all p ys) h).1 later

nodes_pay : (x : Category) → all (pays (node_cost x)) (nodes x) ≡ true
unfolding nodes
nodes_pay c.Clause = refl
nodes_pay _ = refl

inlines_pay : (x : Category) → all (pays_inline (inline_cost x)) (inlines x) ≡ true
unfolding inlines
inlines_pay c.ClausePiece = refl
inlines_pay _ = refl

prefixes_pay : (l : Setting) → all (pays 1) (prefixes l) ≡ true
unfolding prefixes
prefixes_pay m.Free = refl
prefixes_pay m.Header = refl

suffixes_pay : (l : Setting) → all (pays 0) (suffixes l) ≡ true
unfolding suffixes
suffixes_pay m.Free = refl
suffixes_pay m.Header = refl

pub node_pays : (x : Category) (r : Rule) → Among r (nodes x) → weight r.symbols + end_cost r.ending ≤ 3 * tokens_in r.symbols + node_cost x
node_pays x r among = leb-true (weight r.symbols + end_cost r.ending) (3 * tokens_in r.symbols + node_cost x) (all_at (pays (node_cost x)) (nodes x) r (nodes_pay x) among)

pub inline_pays : (x : Category) (r : List Symbol) → Among r (inlines x) → weight r ≤ 3 * tokens_in r + inline_cost x
inline_pays x r among = leb-true (weight r) (3 * tokens_in r + inline_cost x) (all_at (pays_inline (inline_cost x)) (inlines x) r (inlines_pay x) among)

pub prefix_pays : (l : Setting) (r : Rule) → Among r (prefixes l) → weight r.symbols + end_cost r.ending ≤ 3 * tokens_in r.symbols + 1
prefix_pays l r among = leb-true (weight r.symbols + end_cost r.ending) (3 * tokens_in r.symbols + 1) (all_at (pays 1) (prefixes l) r (prefixes_pay l) among)

pub suffix_pays : (l : Setting) (r : Rule) → Among r (suffixes l) → weight r.symbols + end_cost r.ending ≤ 3 * tokens_in r.symbols + 0
suffix_pays l r among = leb-true (weight r.symbols + end_cost r.ending) (3 * tokens_in r.symbols + 0) (all_at (pays 0) (suffixes l) r (suffixes_pay l) among)

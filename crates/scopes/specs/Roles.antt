-- What each kind of node does to names (Go 1.17, "Blocks", "Declarations and scope").
use Rattle.std.specs.Prelude.{ℕ, true, false}
use Rattle.go_tree.specs.declared.tree.NodeKind.{NodeKind}
use Rattle.go_tree.specs.declared.tree.NodeKind.TheVariants as k
use Rattle.scopes.specs.declared.scope.Form.{Form}
use Rattle.scopes.specs.declared.scope.Form.TheVariants as form
use Rattle.scopes.specs.declared.scope.Handed.{Handed}
use Rattle.scopes.specs.declared.scope.Handed.TheVariants as hand
use Rattle.scopes.specs.declared.scope.Declares.{Declares}
use Rattle.scopes.specs.declared.scope.Declares.TheVariants as name
use Rattle.scopes.specs.declared.scope.Role.{Role}

-- a node of no block, that declares nothing
abbrev pub plain : Role
plain = record { form = form.Other; opens = false; takes = false; hands = hand.Nothing; declares = name.Nothing; named = 0 }

-- a block
abbrev pub block : Role
block = record { form = form.Other; opens = true; takes = false; hands = hand.Nothing; declares = name.Nothing; named = 0 }

-- a node with a name that is no use
abbrev pub naming : Role
naming = record { form = form.Other; opens = false; takes = false; hands = hand.Nothing; declares = name.Nothing; named = 1 }

-- a specification, of constants, variables or a type
abbrev pub spec : Declares → Role
spec d = record { form = form.Other; opens = false; takes = false; hands = hand.Nothing; declares = d; named = 1 }

abbrev pub formed : Form → ℕ → Role
formed f n = record { form = f; opens = false; takes = false; hands = hand.Nothing; declares = name.Nothing; named = n }

abbrev pub handing : Handed → ℕ → Role
handing h n = record { form = form.Other; opens = true; takes = false; hands = h; declares = name.Nothing; named = n }

-- What each kind does. The whole of an if, for, switch or select is a block, and so is each clause. A body is a block.
abbrev pub role : NodeKind → Role
role k.Name = formed form.Name 0
role k.Names = formed form.Names 0
role k.Params = formed form.Params 0
role k.Param = formed form.Param 1
role k.SpreadParam = formed form.Param 1
role k.Bind = formed form.Bind 1
role k.Block = record { form = form.Other; opens = true; takes = true; hands = hand.Nothing; declares = name.Nothing; named = 0 }
role k.List = record { form = form.Other; opens = false; takes = true; hands = hand.Nothing; declares = name.Nothing; named = 0 }
role k.If = block
role k.Switch = block
role k.Select = block
role k.For = block
role k.ForClause = block
role k.ForRange = block
role k.ForRangeAssign = block
role k.Case = block
role k.Comm = block
role k.TypeCase = handing hand.Passed 0
role k.Default = handing hand.Passed 0
role k.TypeSwitch = handing hand.Switch 0
role k.ForRangeDefine = handing hand.Range 1
role k.FuncDecl = record { form = form.Other; opens = false; takes = false; hands = hand.Parameters; declares = name.Before; named = 1 }
role k.MethodDecl = record { form = form.Other; opens = false; takes = false; hands = hand.Parameters; declares = name.Nothing; named = 2 }
role k.FuncLit = record { form = form.Other; opens = false; takes = false; hands = hand.Parameters; declares = name.Nothing; named = 0 }
role k.ConstNames = spec name.After
role k.ConstValues = spec name.After
role k.ConstTyped = spec name.After
role k.VarValues = spec name.After
role k.VarTyped = spec name.After
role k.VarTypedValues = spec name.After
role k.Define = spec name.Assigns
role k.Defined = spec name.Before
role k.Alias = spec name.Before
role k.Package = naming
role k.ImportNamed = naming
role k.Field = naming
role k.Method = naming
role k.Label = naming
role k.Break = naming
role k.Continue = naming
role k.Goto = naming
role _ = plain

-- Families of rules, by kinds of nodes. A kind more is a row of `family`.
use Rattle.std.specs.Prelude.{ℕ, Bool, true, false, List, Option, None}
use Rattle.go_tree.specs.declared.tree.Node.{Node}
use Rattle.go_tree.specs.declared.tree.NodeKind.{NodeKind}
use Rattle.go_tree.specs.declared.tree.NodeKind.TheVariants as k
use Rattle.go_tree.specs.declared.tree.NodeRef.{NodeRef}
use Rattle.mark_walk.specs.Asks.{done}
use Rattle.typed_marks.specs.Meanings.{Free, Quiet, Wishes}
use Rattle.typed_tree.specs.declared.place.Want.TheVariants as demand
use Rattle.unit_read.specs.declared.place.Place.{Place}
use Rattle.unit_read.specs.Units.{Unit}
use Rattle.rule_words.specs.declared.read.How.{How}
use Rattle.rule_words.specs.declared.read.Read.{Read}
use Rattle.rule_words.specs.Asking.{Rule}
use Rattle.rule_words.specs.Parts.{Part, reads}
use Rattle.rule_words.specs.Words.{Wanted}
use Rattle.op_rules.specs.Forms.{op_reads}
use Rattle.op_rules.specs.Rules.{op_rule}
use Rattle.op_rules.specs.Wants.{op_wants}
use Rattle.primary_rules.specs.Forms.{primary_reads}
use Rattle.primary_rules.specs.Rules.{primary_rule}
use Rattle.primary_rules.specs.Wants.{primary_wants}
use Rattle.call_rules.specs.Rules.{call_reads, call_rule}
use Rattle.call_rules.specs.Wants.{call_wants}
use Rattle.literal_rules.specs.Forms.{literal_reads}
use Rattle.literal_rules.specs.Rules.{literal_rule}
use Rattle.literal_rules.specs.Wants.{literal_wants}
use Rattle.variable_rules.specs.Forms.{variable_reads}
use Rattle.variable_rules.specs.Rules.{variable_rule}
use Rattle.variable_rules.specs.Wants.{variable_wants}
use Rattle.statement_rules.specs.Rules.{statement_reads, statement_rule}
use Rattle.statement_rules.specs.Wants.{statement_wants}
use Rattle.operator_statements.specs.Rules.{operation_reads, operation_rule, operation_wants}
use Rattle.decl_rules.specs.Rules.{decl_reads, decl_rule}
use Rattle.decl_rules.specs.Wants.{decl_wants}
use Rattle.go_rules.specs.Clause.{clause_rule}
use Rattle.go_rules.specs.Functions.{function_rule}
use Rattle.go_rules.specs.Types.{type_rule}
use Rattle.go_rules.specs.declared.family.Family.{Family}
use Rattle.go_rules.specs.declared.family.Family.TheVariants as f

-- what judges the nodes of a kind
abbrev pub family : NodeKind → Family
family k.Int = f.Operand
family k.Rune = f.Operand
family k.Text = f.Operand
family k.Float = f.Operand
family k.Imag = f.Operand
family k.Name = f.Operand
family k.Binary = f.Operand
family k.Selector = f.Primary
family k.Index = f.Primary
family k.SliceAll = f.Primary
family k.SliceLow = f.Primary
family k.SliceLowHigh = f.Primary
family k.SliceLowHighMax = f.Primary
family k.SliceHigh = f.Primary
family k.SliceHighMax = f.Primary
family k.Assert = f.Primary
family k.Star = f.Primary
family k.Unary = f.Primary
family k.Paren = f.Primary
family k.Call = f.Call
family k.CallSpread = f.Call
family k.Composite = f.Literal
family k.Value = f.Literal
family k.KeyValue = f.Literal
family k.DotsType = f.Literal
family k.FuncLit = f.Function
family k.SliceType = f.Type
family k.ArrayType = f.Type
family k.MapType = f.Type
family k.ChanType = f.Type
family k.SendChan = f.Type
family k.RecvChan = f.Type
family k.FuncType = f.Type
family k.StructType = f.Type
family k.InterfaceType = f.Type
family k.VarValues = f.Variable
family k.VarTypedValues = f.Variable
family k.FuncDecl = f.Declaration
family k.MethodDecl = f.Declaration
family k.Method = f.Declaration
family k.Params = f.Declaration
family k.Param = f.Declaration
family k.SpreadParam = f.Declaration
family k.Variadic = f.Declaration
family k.Field = f.Declaration
family k.Embedded = f.Declaration
family k.EmbeddedPointer = f.Declaration
family k.ConstNames = f.Declaration
family k.ConstValues = f.Declaration
family k.ConstTyped = f.Declaration
family k.VarTyped = f.Declaration
family k.Defined = f.Declaration
family k.Alias = f.Declaration
family k.Const = f.Declaration
family k.ConstGroup = f.Declaration
family k.Var = f.Declaration
family k.VarGroup = f.Declaration
family k.TypeDecl = f.Declaration
family k.TypeGroup = f.Declaration
family k.Import = f.Declaration
family k.ImportGroup = f.Declaration
family k.ImportPath = f.Declaration
family k.ImportDot = f.Declaration
family k.ImportNamed = f.Declaration
family k.Block = f.Statement
family k.List = f.Statement
family k.Go = f.Statement
family k.Defer = f.Statement
family k.Return = f.Statement
family k.Break = f.Statement
family k.Continue = f.Statement
family k.Goto = f.Statement
family k.Fallthrough = f.Statement
family k.Assign = f.Statement
family k.Send = f.Statement
family k.Increment = f.Statement
family k.Decrement = f.Statement
family k.Define = f.Statement
family k.Label = f.Statement
family k.If = f.Statement
family k.Switch = f.Statement
family k.TypeSwitch = f.Statement
family k.Select = f.Statement
family k.For = f.Statement
family k.ForClause = f.Statement
family k.ForRange = f.Statement
family k.ForRangeAssign = f.Statement
family k.ForRangeDefine = f.Statement
family k.Case = f.Statement
family k.Default = f.Statement
family k.TypeCase = f.Statement
family k.TypeList = f.Statement
family k.Comm = f.Statement
family k.Condition = f.Statement
family k.Post = f.Statement
family k.TypeGuard = f.Statement
family k.Bind = f.Statement
family k.OpAssign = f.Operation
family k.Package = f.Clause
family _ = f.Other

-- what is said of the nodes of the family counts for their parts
abbrev pub is_told : Family → Bool
is_told f.Operand = true
is_told f.Primary = true
is_told f.Call = true
is_told f.Literal = true
is_told f.Function = true
is_told f.Type = true
is_told f.Variable = true
is_told f.Declaration = true
is_told f.Statement = true
is_told f.Operation = true
is_told f.Clause = true
is_told f.Other = false

-- its nodes are expressions or types: they are judged by themselves, too, before anything is wanted of them
abbrev pub is_expression : Family → Bool
is_expression f.Operand = true
is_expression f.Primary = true
is_expression f.Call = true
is_expression f.Literal = true
is_expression f.Function = true
is_expression f.Type = true
is_expression f.Variable = false
is_expression f.Declaration = false
is_expression f.Statement = false
is_expression f.Operation = false
is_expression f.Clause = false
is_expression f.Other = false

-- how the parts in a slot are read
abbrev pub reads_by : Family → NodeKind → ℕ → Option How
reads_by f.Operand kind slot = op_reads kind slot
reads_by f.Primary kind slot = primary_reads kind slot
reads_by f.Call kind slot = call_reads kind slot
reads_by f.Literal kind slot = literal_reads kind slot
reads_by f.Function _ slot = None
reads_by f.Type kind slot = decl_reads kind slot
reads_by f.Variable kind slot = variable_reads kind slot
reads_by f.Declaration kind slot = decl_reads kind slot
reads_by f.Statement kind slot = statement_reads kind slot
reads_by f.Operation kind slot = operation_reads kind slot
reads_by f.Clause _ slot = None
reads_by f.Other _ slot = None

-- what is read of a node's parts
abbrev pub node_reads : List Node → Node → List Read
node_reads nodes node = reads (reads_by (family node.kind) node.kind) nodes node

-- the rule of a node, from its parts as they were read and from what its place wants
abbrev pub rule_by : Family → Unit → ℕ → NodeRef → Node → List Part → Wanted → Rule
rule_by f.Operand u block at node ps w = op_rule u block at node ps w
rule_by f.Primary u block at node ps w = primary_rule u block at node ps w
rule_by f.Call u block at node ps w = call_rule u block at node ps w
rule_by f.Literal u block at node ps w = literal_rule u block at node ps w
rule_by f.Function u block at node ps w = function_rule u block at node
rule_by f.Type u block at node ps w = type_rule u block at node ps w
rule_by f.Variable u block at node ps w = variable_rule u block at node ps w
rule_by f.Declaration u block at node ps w = decl_rule u block at node ps w
rule_by f.Statement u block at node ps w = statement_rule u block at node ps w
rule_by f.Operation u block at node ps w = operation_rule u block at node ps w
rule_by f.Clause u block at node ps w = clause_rule u at.file
rule_by f.Other u block at node ps w = done Quiet

-- what the node around wants of what stands at a place in it
abbrev pub wants_by : Family → Unit → ℕ → Place → Node → Rule
wants_by f.Operand u block p around = op_wants u block p around
wants_by f.Primary u block p around = primary_wants u block p around
wants_by f.Call u block p around = call_wants u block p around
wants_by f.Literal u block p around = literal_wants u block p around
wants_by f.Function u block p around = done (Wishes demand.Type Free)
wants_by f.Type u block p around = decl_wants u block p around
wants_by f.Variable u block p around = variable_wants u block p around
wants_by f.Declaration u block p around = decl_wants u block p around
wants_by f.Statement u block p around = statement_wants u block p around
wants_by f.Operation u block p around = operation_wants u block p around
wants_by f.Clause u block p around = done (Wishes demand.Nothing Free)
wants_by f.Other u block p around = done (Wishes demand.Nothing Free)

-- What nodes are to the rules of type expressions and declarations. Each kind stands in one clause at most, so that all else is by cases over
-- these few.
use Rattle.std.specs.Prelude.{Option, Some, None}
use Rattle.go_tree.specs.declared.tree.NodeKind.{NodeKind}
use Rattle.go_tree.specs.declared.tree.NodeKind.TheVariants as k
use Rattle.type_model.specs.declared.term.Dir.TheVariants.{Both, Send, Receive}
use Rattle.decl_rules.specs.declared.forms.Simple.{Simple}
use Rattle.decl_rules.specs.declared.forms.Simple.TheVariants as simple
use Rattle.decl_rules.specs.declared.forms.Member.{Member}
use Rattle.decl_rules.specs.declared.forms.Member.TheVariants as member
use Rattle.decl_rules.specs.declared.forms.Signed.{Signed}
use Rattle.decl_rules.specs.declared.forms.Signed.TheVariants as signed
use Rattle.decl_rules.specs.declared.forms.Listed.{Listed}
use Rattle.decl_rules.specs.declared.forms.Listed.TheVariants as listed
use Rattle.decl_rules.specs.declared.forms.Line.{Line}
use Rattle.decl_rules.specs.declared.forms.Line.TheVariants as line
use Rattle.decl_rules.specs.declared.forms.Named.{Named}
use Rattle.decl_rules.specs.declared.forms.Named.TheVariants as named
use Rattle.decl_rules.specs.declared.forms.Valuing.{Valuing}
use Rattle.decl_rules.specs.declared.forms.Valuing.TheVariants as valuing

abbrev pub simple_form : NodeKind → Option Simple
simple_form k.SliceType = Some simple.Slice
simple_form k.SpreadParam = Some simple.Slice
simple_form k.Variadic = Some simple.Slice
simple_form k.ArrayType = Some simple.Array
simple_form k.MapType = Some simple.Map
simple_form k.ChanType = Some (simple.Chan Both)
simple_form k.SendChan = Some (simple.Chan Send)
simple_form k.RecvChan = Some (simple.Chan Receive)
simple_form k.Param = Some simple.Same
simple_form _ = None

abbrev pub member_form : NodeKind → Option Member
member_form k.Field = Some member.Field
member_form k.Embedded = Some member.Embedded
member_form k.EmbeddedPointer = Some member.EmbeddedPointer
member_form _ = None

abbrev pub signed_form : NodeKind → Option Signed
signed_form k.FuncType = Some signed.FuncType
signed_form k.FuncDecl = Some signed.FuncDecl
signed_form k.MethodDecl = Some signed.MethodDecl
signed_form k.Method = Some signed.Method
signed_form _ = None

abbrev pub listed_form : NodeKind → Option Listed
listed_form k.Params = Some listed.Params
listed_form k.StructType = Some listed.Struct
listed_form k.InterfaceType = Some listed.Interface
listed_form _ = None

abbrev pub line_form : NodeKind → Option Line
line_form k.ConstNames = Some line.Constants
line_form k.ConstValues = Some line.Constants
line_form k.ConstTyped = Some line.Typed
line_form k.ImportPath = Some line.Import
line_form k.ImportDot = Some line.Import
line_form k.ImportNamed = Some line.Import
line_form k.VarTyped = Some line.Plain
line_form k.Defined = Some line.Plain
line_form k.Alias = Some line.Plain
line_form k.Const = Some line.Plain
line_form k.ConstGroup = Some line.Plain
line_form k.Var = Some line.Plain
line_form k.VarGroup = Some line.Plain
line_form k.TypeDecl = Some line.Plain
line_form k.TypeGroup = Some line.Plain
line_form k.Import = Some line.Plain
line_form k.ImportGroup = Some line.Plain
line_form _ = None

-- what is said beside the mark of a node, by what stands around it: what the object of a name is, or what is tested late
abbrev pub named_form : NodeKind → Option Named
named_form k.ConstNames = Some named.Constant
named_form k.ConstValues = Some named.Constant
named_form k.ConstTyped = Some named.Constant
named_form k.VarTyped = Some named.Typed
named_form k.VarTypedValues = Some named.Valued
named_form k.VarValues = Some named.Valued
named_form k.Param = Some named.Param
named_form k.SpreadParam = Some named.Param
named_form k.FuncDecl = Some named.Function
named_form k.MethodDecl = Some named.Method
named_form k.Defined = Some named.Defined
named_form k.Alias = Some named.Alias
named_form k.MapType = Some named.Map
named_form k.StructType = Some named.Struct
named_form _ = None

-- what wants a value, by what stands around it
abbrev pub valuing_form : NodeKind → Option Valuing
valuing_form k.ArrayType = Some valuing.Array
valuing_form k.ConstValues = Some valuing.Constants
valuing_form k.ConstTyped = Some valuing.TypedConstants
valuing_form _ = None

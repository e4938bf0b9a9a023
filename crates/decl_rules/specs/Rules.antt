-- The rule of each type expression and declaration, by what it is.
use Rattle.std.specs.Prelude.{ℕ, ◌==◌, true, if◌then◌else◌, List, Option, Some, None, option_and_then}
use Rattle.std.specs.Option.{option_map_or}
use Rattle.go_tree.specs.declared.tree.Node.{Node}
use Rattle.go_tree.specs.declared.tree.NodeKind.{NodeKind}
use Rattle.go_tree.specs.declared.tree.NodeKind.TheVariants as k
use Rattle.go_tree.specs.declared.tree.NodeRef.{NodeRef}
use Rattle.mark_walk.specs.Asks.{done}
use Rattle.typed_tree.specs.declared.rule.Limit.{Limit}
use Rattle.typed_marks.specs.Meanings.{Beyond, Quiet}
use Rattle.unit_read.specs.declared.lead.Lead.{Lead}
use Rattle.unit_read.specs.Imports.{lead_at}
use Rattle.unit_read.specs.Units.{Unit, nodes_at}
use Rattle.rule_words.specs.declared.read.How.{How}
use Rattle.rule_words.specs.declared.read.How.TheVariants as h
use Rattle.rule_words.specs.Parts.{Part, part_at}
use Rattle.rule_words.specs.Asking.{Rule}
use Rattle.rule_words.specs.Words.{Wanted, nothing}
use Rattle.decl_rules.specs.declared.forms.Simple.{Simple}
use Rattle.decl_rules.specs.declared.forms.Simple.TheVariants as simple
use Rattle.decl_rules.specs.declared.forms.Member.{Member}
use Rattle.decl_rules.specs.declared.forms.Member.TheVariants as member
use Rattle.decl_rules.specs.declared.forms.Signed.{Signed}
use Rattle.decl_rules.specs.declared.forms.Signed.TheVariants as signed
use Rattle.decl_rules.specs.declared.forms.Listed.{Listed}
use Rattle.decl_rules.specs.declared.forms.Listed.TheVariants as listed
use Rattle.decl_rules.specs.declared.forms.Line.{Line}
use Rattle.decl_rules.specs.declared.forms.Line.TheVariants as line
use Rattle.decl_rules.specs.Forms.{simple_form, member_form, signed_form, listed_form, line_form}
use Rattle.type_rules.specs.Types.{pointing_rule, slice_rule, chan_rule, map_rule, array_rule, same_rule}
use Rattle.type_rules.specs.Signatures.{signature_rule}
use Rattle.type_rules.specs.Receivers.{list_rule}
use Rattle.decl_rules.specs.Specifications.{is_fit, const_rule, member_rule}
use Rattle.type_rules.specs.Structs.{field_rule, struct_rule}
use Rattle.type_rules.specs.Interfaces.{interface_rule}

-- ---- how parts are read

-- this slot alone
abbrev pub at_slot : ℕ → How → ℕ → Option How
at_slot i how slot = if slot == i then Some how else None

-- How the parts in each slot are read. Parameters and results are asked for by the rule of a signature.
abbrev pub decl_reads : NodeKind → ℕ → Option How
decl_reads k.SliceType slot = Some h.Type
decl_reads k.ArrayType slot = Some h.Type
decl_reads k.MapType slot = Some h.Type
decl_reads k.ChanType slot = Some h.Type
decl_reads k.SendChan slot = Some h.Type
decl_reads k.RecvChan slot = Some h.Type
decl_reads k.Params slot = Some h.Type
decl_reads k.Variadic slot = Some h.Type
decl_reads k.StructType slot = Some h.Type
decl_reads k.InterfaceType slot = Some h.TypeAndUnder
decl_reads k.Embedded slot = Some h.Type
decl_reads k.EmbeddedPointer slot = Some h.Type
decl_reads k.Param slot = at_slot 1 h.Type slot
decl_reads k.SpreadParam slot = at_slot 1 h.Type slot
decl_reads k.Field slot = at_slot 1 h.Type slot
decl_reads k.ConstTyped slot = at_slot 1 h.TypeAndUnder slot
decl_reads _ slot = None

-- ---- type expressions

abbrev pub simple_rule : Simple → Part → Part → Rule
simple_rule simple.Slice a b = slice_rule a
simple_rule simple.Array a b = array_rule a b
simple_rule simple.Map a b = map_rule a b
simple_rule (simple.Chan direction) a b = chan_rule direction a
simple_rule simple.Same a b = same_rule a

-- a member of a struct: a bad one makes the struct no type
abbrev pub member_of : Unit → NodeRef → Node → Part → Member → Rule
member_of u at node p member.Field = field_rule u at.file (nodes_at u at.file) node p
member_of u at node p member.Embedded = member_rule u at (same_rule p)
member_of u at node p member.EmbeddedPointer = member_rule u at (pointing_rule p)

-- a method of an interface: E14, then its signature
abbrev pub method_rule : Unit → ℕ → NodeRef → Node → Rule
method_rule u block at node = member_rule u at (signature_rule u block (nodes_at u at.file) node 1)

abbrev pub signed_rule : Unit → ℕ → NodeRef → Node → Signed → Rule
signed_rule u block at node signed.FuncType = signature_rule u block (nodes_at u at.file) node 0
signed_rule u block at node signed.FuncDecl = signature_rule u block (nodes_at u at.file) node 1
signed_rule u block at node signed.MethodDecl = signature_rule u block (nodes_at u at.file) node 2
signed_rule u block at node signed.Method = method_rule u block at node

abbrev pub listed_rule : Unit → NodeRef → Node → List Part → Listed → Rule
listed_rule u at node ps listed.Params = list_rule u at node ps
listed_rule u at node ps listed.Struct = struct_rule u at.file node ps
listed_rule u at node ps listed.Interface = interface_rule u at.file node ps

-- ---- declarations

-- profile: an import that lies outside it
abbrev pub limited : Option Limit → Rule
limited limit = option_map_or (λ l. done (Beyond l)) limit (done nothing)

abbrev pub import_rule : Unit → NodeRef → Rule
import_rule u at = limited (option_and_then (λ (l : Lead). l.limit) (lead_at u at))

abbrev pub line_rule : Unit → NodeRef → Part → Line → Rule
line_rule u at p line.Constants = const_rule u at true
line_rule u at p line.Typed = const_rule u at (is_fit p.under)
line_rule u at p line.Import = import_rule u at
line_rule u at p line.Plain = done nothing

-- ---- all

abbrev pub simple_of : List Part → Simple → Rule
simple_of ps form = simple_rule form (part_at ps 0) (part_at ps 1)

abbrev pub line_of : Unit → NodeRef → List Part → Line → Rule
line_of u at ps form = line_rule u at (part_at ps 0) form

abbrev pub in_member : Unit → NodeRef → Node → List Part → Member → Rule
in_member u at node ps form = member_of u at node (part_at ps 0) form

-- nothing is said yet of the package clause
abbrev pub or_line : Unit → NodeRef → Node → List Part → Rule
or_line u at node ps = option_map_or (line_of u at ps) (line_form node.kind) (done Quiet)

abbrev pub or_member : Unit → NodeRef → Node → List Part → Rule
or_member u at node ps = option_map_or (in_member u at node ps) (member_form node.kind) (or_line u at node ps)

abbrev pub or_listed : Unit → NodeRef → Node → List Part → Rule
or_listed u at node ps = option_map_or (listed_rule u at node ps) (listed_form node.kind) (or_member u at node ps)

abbrev pub or_signed : Unit → ℕ → NodeRef → Node → List Part → Rule
or_signed u block at node ps = option_map_or (signed_rule u block at node) (signed_form node.kind) (or_listed u at node ps)

-- The rule of a type expression or a declaration, from its parts.
abbrev pub decl_rule : Unit → ℕ → NodeRef → Node → List Part → Wanted → Rule
decl_rule u block at node ps w = option_map_or (simple_of ps) (simple_form node.kind) (or_signed u block at node ps)

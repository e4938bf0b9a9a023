-- What a node is where it stands, and what its place makes of it: a name that is declared is no use, one before a colon may be that of a field, an
-- interface embeds what stands in it, but for the methods that are written, one value may stand for several names, and a body is no part of a function's
-- type (Go 1.17, "Declarations and scope", "Composite literals", "Interface types", "Calls", "Variable declarations", "Blocks", "Statements").
use Rattle.std.specs.Prelude.{ℕ, ◌==◌, ◌&&◌, Bool, true, false, if◌then◌else◌, is_some, Option, None}
use Rattle.std.specs.Option.{option_map_or}
use Rattle.go_tree.specs.declared.bindings.Object.{Object}
use Rattle.go_tree.specs.declared.tree.Node.{Node}
use Rattle.go_tree.specs.declared.tree.NodeKind.{NodeKind}
use Rattle.go_tree.specs.declared.tree.NodeKind.TheVariants as k
use Rattle.go_tree.specs.declared.tree.NodeRef.{NodeRef}
use Rattle.object_order.specs.Spots.{place}
use Rattle.unit_read.specs.declared.place.Place.{Place}
use Rattle.unit_read.specs.Units.{Unit, node_at, name_at, place_at, object_at, is_blank}
use Rattle.assign_rules.specs.Around.{outermost, clause_of}
use Rattle.assign_rules.specs.Kinds.{names_label}
use Rattle.statement_rules.specs.declared.placing.Placing.{Placing as StatementPlacing}
use Rattle.statement_rules.specs.declared.placing.Placing.TheVariants as stated
use Rattle.statement_rules.specs.Placing.{placing_of as statement_placing, takes_blank}
use Rattle.decl_rules.specs.Wants.{declares_names}
use Rattle.go_rules.specs.declared.role.Placing.{Placing}
use Rattle.go_rules.specs.declared.role.Placing.TheVariants as pl
use Rattle.go_rules.specs.declared.role.Role.{Role}
use Rattle.go_rules.specs.declared.role.Role.TheVariants as r
use Rattle.go_rules.specs.Families.{family, is_told}

abbrev pub is_name : NodeKind → Bool
is_name k.Name = true
is_name _ = false

-- ---- the names of statements

-- the names that a statement declares stand in the slot
abbrev pub states_names : NodeKind → ℕ → Bool
states_names k.Define slot = slot == 0
states_names k.ForRangeDefine slot = slot == 0
states_names k.Bind slot = slot == 0
states_names _ slot = false

-- "Short variable declarations": a name that was declared before in the same block is assigned
abbrev pub stated_role : Option Object → Role
stated_role o = if is_some o then r.Part else r.Declared

-- ---- blanks to which something is assigned

abbrev pub takes_in : Place → Node → Bool
takes_in p around = takes_blank around.kind p.slot

abbrev pub takes_beside : Unit → NodeRef → Place → Bool
takes_beside u at p = option_map_or (takes_in p) (node_at u (place at.file p.around)) false

-- the node stands on the left of an assignment
abbrev pub is_assigned : Unit → NodeRef → Bool
is_assigned u at = option_map_or (takes_beside u at) (place_at u at) false

-- "Assignments": the blank on the left of one, parentheses aside, is no use
abbrev pub is_dropped : Unit → NodeRef → Bool
is_dropped u at = is_blank (name_at u at) && is_assigned u (place at.file (outermost u at.file at.node))

-- ---- what a name is, by what is around

-- the name stands before a colon
abbrev pub is_key : NodeKind → ℕ → Bool
is_key k.KeyValue slot = slot == 0
is_key _ slot = false

-- In a node of which nothing is told a name may be one that is declared.
abbrev pub used_role : NodeKind → Role
used_role around = if is_told (family around) then r.Part else r.Untold

abbrev pub blank_or_use : Unit → NodeRef → NodeKind → Role
blank_or_use u at around = if is_dropped u at then r.Blank else used_role around

abbrev pub key_or_use : Unit → NodeRef → NodeKind → ℕ → Role
key_or_use u at around slot = if is_key around slot then r.Key else blank_or_use u at around

abbrev pub declared_or_use : Unit → NodeRef → NodeKind → ℕ → Role
declared_or_use u at around slot = if declares_names around slot then r.Declared else key_or_use u at around slot

abbrev pub stated_or_use : Unit → NodeRef → NodeKind → ℕ → Role
stated_or_use u at around slot = if states_names around slot then stated_role (object_at u at) else declared_or_use u at around slot

-- the name of a label is none of an object
abbrev pub name_role : Unit → NodeRef → NodeKind → ℕ → Role
name_role u at around slot = if names_label around slot then r.Untold else stated_or_use u at around slot

-- what a node of a kind is in a slot of a node
abbrev pub role_of : Unit → NodeRef → NodeKind → ℕ → NodeKind → Role
role_of u at around slot kind = if is_name kind then name_role u at around slot else r.Part

-- ---- in a package

abbrev pub role_in : Unit → NodeRef → Node → Place → Node → Role
role_in u at node p around = role_of u at around.kind p.slot node.kind

abbrev pub role_beside : Unit → NodeRef → Node → Place → Role
role_beside u at node p = option_map_or (role_in u at node p) (node_at u (place at.file p.around)) r.Part

-- What a node is where it stands.
abbrev pub role_at : Unit → NodeRef → Node → Role
role_at u at node = option_map_or (role_beside u at node) (place_at u at) r.Part

-- "Type switches": the clause whose variable a name denotes
abbrev pub clause_for : Unit → NodeRef → Node → Option ℕ
clause_for u at node = if is_name node.kind then clause_of u at else None

-- ---- what a place makes of it

abbrev pub is_method : NodeKind → Bool
is_method k.Method = true
is_method _ = false

abbrev pub element_placing : NodeKind → Placing
element_placing kind = if is_method kind then pl.Plain else pl.Embedded

abbrev pub is_body : NodeKind → Bool
is_body k.Block = true
is_body _ = false

abbrev pub function_placing : NodeKind → Placing
function_placing kind = if is_body kind then pl.Body else pl.Plain

-- in a node of this kind, of a node of that
abbrev pub placing_of : NodeKind → NodeKind → Placing
placing_of k.InterfaceType kind = element_placing kind
placing_of k.FuncDecl kind = function_placing kind
placing_of k.MethodDecl kind = function_placing kind
placing_of k.FuncLit kind = function_placing kind
placing_of k.Call _ = pl.Argument
placing_of k.VarTypedValues _ = pl.Shared
placing_of _ _ = pl.Plain

-- what a statement makes of it, if it makes more than what it wants
abbrev pub unless_stated : StatementPlacing → Placing → Placing
unless_stated stated.Plain rest = rest
unless_stated stated.Standing rest = pl.Stated stated.Standing
unless_stated stated.Communicating rest = pl.Stated stated.Communicating
unless_stated stated.Target rest = pl.Stated stated.Target
unless_stated stated.Several rest = pl.Stated stated.Several
unless_stated stated.Passed rest = pl.Stated stated.Passed
unless_stated stated.Value rest = pl.Stated stated.Value
unless_stated stated.Type rest = pl.Stated stated.Type
unless_stated stated.Ranged rest = pl.Stated stated.Ranged

-- What a place in a node makes of the node that stands there.
abbrev pub placing_at : Unit → NodeRef → Node → Place → Node → Placing
placing_at u at node p around = unless_stated (statement_placing u at.file p around at.node node.kind) (placing_of around.kind node.kind)

-- Uses of what is declared in the package, where no type is wanted that an untyped operand could take.
use Rattle.std.specs.Prelude.{Bool, true, false, not, ◌&&◌, ◌==◌, if◌then◌else◌, length, Option, Some, None}
use Rattle.go_tree.specs.declared.bindings.Object.{Object}
use Rattle.go_tree.specs.declared.bindings.Object.TheVariants as o
use Rattle.go_tree.specs.declared.tree.Node.{Node}
use Rattle.go_tree.specs.declared.tree.NodeRef.{NodeRef}
use Rattle.typed_marks.specs.declared.mark.Want.{Want}
use Rattle.typed_marks.specs.declared.mark.Want.TheVariants as w
use Rattle.unit_read.specs.Units.{Unit, first_spelled, is_blank, object_at}
use Rattle.go_rules.specs.Roles.{is_name}

-- the name at which it is declared in the package
abbrev pub declared_at : Option Object → Option NodeRef
declared_at None = None
declared_at (Some (o.Universe i)) = None
declared_at (Some (o.Import at)) = None
declared_at (Some (o.Local name)) = Some name
declared_at (Some (o.Package name)) = Some name

abbrev pub is_written : Unit → NodeRef → Node → Bool
is_written u at node = not (is_blank (first_spelled u at.file node))

abbrev pub is_alone : Unit → NodeRef → Node → Bool
is_alone u at node = length node.parts == 0 && is_written u at node

-- a name without parts that is no blank
abbrev pub is_plain_name : Unit → NodeRef → Node → Bool
is_plain_name u at node = is_name node.kind && is_alone u at node

abbrev pub is_free : Want → Bool
is_free w.Free = true
is_free (w.Takes to) = false
is_free (w.Fits to) = false
is_free (w.Assigned to) = false

abbrev pub is_free_use : Unit → NodeRef → Node → Want → Bool
is_free_use u at node want = is_free want && is_plain_name u at node

-- the name at which what the node uses is declared, where no type is wanted
abbrev pub free_use : Unit → NodeRef → Node → Want → Option NodeRef
free_use u at node want = if is_free_use u at node want then declared_at (object_at u at) else None

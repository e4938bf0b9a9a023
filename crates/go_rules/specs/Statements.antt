-- What statements add to the rules of names: the variables that they declare, and those of the clauses of type switches (Go 1.17, "Short variable
-- declarations", "For statements with range clause", "Type switches").
use Rattle.std.specs.Prelude.{ℕ, Bool, true, false, if◌then◌else◌}
use Rattle.std.specs.Option.{option_map_or}
use Rattle.go_tree.specs.declared.tree.Node.{Node}
use Rattle.go_tree.specs.declared.tree.NodeKind.{NodeKind}
use Rattle.go_tree.specs.declared.tree.NodeKind.TheVariants as k
use Rattle.go_tree.specs.declared.tree.NodeRef.{NodeRef}
use Rattle.object_order.specs.Spots.{place}
use Rattle.mark_walk.specs.Asks.{done, bind}
use Rattle.typed_tree.specs.declared.rule.TheConstants.{REDECLARED}
use Rattle.typed_marks.specs.declared.item.Stage.TheVariants as s
use Rattle.typed_marks.specs.Meanings.{Known, Meaning, Right, Wrong, Quiet}
use Rattle.unit_read.specs.declared.place.Place.{Place}
use Rattle.unit_read.specs.Units.{Unit, node_at, place_at}
use Rattle.rule_words.specs.Asking.{Rule, mark_ask}
use Rattle.rule_words.specs.Good.{given}
use Rattle.assign_rules.specs.Objects.{statement_object}
use Rattle.decl_rules.specs.Objects.{object_rule}
use Rattle.go_rules.specs.Roles.{states_names}

-- ---- the variable of a clause

abbrev pub same_known : Known → Rule
same_known x = done (Right x)

-- a use of it; nothing is said where its mark isn't good
abbrev pub switched_use : Meaning → Rule
switched_use m = given m same_known

-- The rule of a use of a type switch's name: it denotes the variable of the clause in which it stands.
abbrev pub switched_rule : Unit → ℕ → ℕ → Rule
switched_rule u file clause = bind (mark_ask u s.Object file clause) switched_use

-- ---- variables that statements declare

-- E1, then what the statement makes of the name
abbrev pub stated_object : Unit → NodeRef → Place → Node → Rule
stated_object u name p around = if u.redeclared name then done (Wrong REDECLARED) else statement_object u name.file around p.index

abbrev pub declared_in : Unit → NodeRef → Place → Node → Rule
declared_in u name p around = if states_names around.kind p.slot then stated_object u name p around else object_rule u name

abbrev pub declared_beside : Unit → NodeRef → Place → Rule
declared_beside u name p = option_map_or (declared_in u name p) (node_at u (place name.file p.around)) (done Quiet)

-- The mark of the object that is declared at a name.
abbrev pub declared_object : Unit → NodeRef → Rule
declared_object u name = option_map_or (declared_beside u name) (place_at u name) (done Quiet)

-- ---- clauses

-- a clause that a type switch may have
abbrev pub is_type_clause : NodeKind → Bool
is_type_clause k.TypeCase = true
is_type_clause k.Default = true
is_type_clause _ = false

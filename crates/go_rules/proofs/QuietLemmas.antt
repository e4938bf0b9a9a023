-- Of a quiet item its rule says nothing.
use Rattle.std.proofs.Common.{◌≡◌, ℕ, Bool, true, false, not, Option, Some, None, refl, sym, ap, ◌∙◌}
use Rattle.std.specs.Prelude.{◌==◌, if◌then◌else◌}
use Rattle.std.specs.Option.{option_map_or}
use Rattle.go_tree.specs.declared.tree.Node.{Node}
use Rattle.go_tree.specs.declared.tree.NodeKind.{NodeKind}
use Rattle.go_tree.specs.declared.tree.NodeRef.{NodeRef}
use Rattle.object_order.specs.Spots.{place}
use Rattle.mark_walk.specs.Asks.{done}
use Rattle.typed_marks.specs.declared.item.Item.{Item}
use Rattle.typed_marks.specs.declared.item.Stage.{Stage}
use Rattle.typed_marks.specs.declared.item.Stage.TheVariants as s
use Rattle.typed_marks.specs.Meanings.{Quiet}
use Rattle.unit_read.specs.declared.place.Place.{Place}
use Rattle.unit_read.specs.Units.{Unit, node_at, place_at, passage_at, object_at, is_among, defined}
use Rattle.rule_words.specs.Asking.{Rule}
use Rattle.assign_rules.specs.Around.{clause_of}
use Rattle.assign_rules.specs.Kinds.{names_label}
use Rattle.statement_rules.specs.TypeSwitching.{clause_object}
use Rattle.decl_rules.specs.Objects.{object_rule}
use Rattle.decl_rules.specs.Under.{type_rule, under_rule}
use Rattle.decl_rules.specs.Wants.{declares_names}
use Rattle.go_rules.specs.declared.role.Role.{Role}
use Rattle.go_rules.specs.declared.role.Role.TheVariants as r
use Rattle.go_rules.specs.Families.{family, is_told, is_expression}
use Rattle.go_rules.specs.Roles.{is_name, states_names, stated_role, is_key, is_dropped, key_or_use, declared_or_use, stated_or_use, name_role, role_of, role_in, role_beside, role_at}
use Rattle.go_rules.specs.Stages.{with_parts, nothing_wanted, before_plain, before_as, is_late, object_beside, object_in_place, object_of_part, object_of, object_as, stage_rule, node_rule, nth_rule, file_rule, number, rule}
use Rattle.go_rules.specs.Statements.{switched_rule, is_type_clause}
use Rattle.go_rules.specs.Quiet.{is_quiet_before, may_declare, declares_nothing, is_quiet_in, is_quiet_beside, is_quiet_object, is_quiet_under, is_quiet_stage, is_quiet_node, is_quiet_nth, is_quiet_passage, is_quiet}

-- ---- tests

unset : (b : Bool) → not b ≡ true → b ≡ false
unset true is = absurd cc
unset false is = refl

neither : (a b : Bool) → not (if a then true else b) ≡ true → (a ≡ false) × (b ≡ false)
neither true b is = absurd cc
neither false true is = absurd cc
neither false false is = (refl, refl)

both : (a b : Bool) → (if a then false else b) ≡ true → (a ≡ false) × (b ≡ true)
both true b is = absurd cc
both false b is = (refl, is)

-- what is quiet where it is there, and says nothing where it isn't
either_way : {X : Type 0} (test : X → Bool) (follow : X → Rule) (d : Bool) (o : Option X) → ((x : X) → test x ≡ true → follow x ≡ done Quiet) → option_map_or test o d ≡ true
    → option_map_or follow o (done Quiet) ≡ done Quiet
either_way test follow d None each is = refl
either_way test follow d (Some x) each is = each x is

-- ---- before anything is wanted of it

part_of_kind : (u : Unit) (at : NodeRef) (around : NodeKind) (slot : ℕ) (here : NodeKind) → is_name here ≡ false → role_of u at around slot here ≡ r.Part
part_of_kind u at around slot here other = ap (λ (b : Bool). if b then name_role u at around slot else r.Part) other

part_beside : (u : Unit) (at : NodeRef) (node : Node) (p : Place) (o : Option Node) → is_name node.kind ≡ false → option_map_or (role_in u at node p) o r.Part ≡ r.Part
part_beside u at node p None other = refl
part_beside u at node p (Some around) other = part_of_kind u at around.kind p.slot node.kind other

-- what is no name is a part
part_at : (u : Unit) (at : NodeRef) (node : Node) (o : Option Place) → is_name node.kind ≡ false → option_map_or (role_beside u at node) o r.Part ≡ r.Part
part_at u at node None other = refl
part_at u at node (Some p) other = part_beside u at node p (node_at u (place at.file p.around)) other

quiet_before : (u : Unit) (block : ℕ) (at : NodeRef) (node : Node) → is_quiet_before node ≡ true → before_as (role_at u at node) u block at node ≡ done Quiet
quiet_before u block at node is =
    let (other, silent) = both (is_name node.kind) (not (is_expression (family node.kind))) is in
    ap (λ (role : Role). before_as role u block at node) (part_at u at node (place_at u at) other)
    ∙ (ap (λ (b : Bool). option_map_or (switched_rule u at.file) (if b then clause_of u at else None) (before_plain u block at node)) other
    ∙ ap (λ (b : Bool). if b then with_parts u s.Before block at node nothing_wanted else done Quiet) (unset (is_expression (family node.kind)) silent))

-- ---- what is declared at it

abbrev is_declared : Role → Bool
is_declared r.Part = false
is_declared r.Key = false
is_declared r.Declared = true
is_declared r.Blank = false
is_declared r.Untold = false

used : (a b c : Bool) → is_declared (if a then r.Key else (if b then r.Blank else (if c then r.Part else r.Untold))) ≡ false
used true b c = refl
used false true c = refl
used false false true = refl
used false false false = refl

labelled : (b : Bool) (role : Role) → is_declared role ≡ false → is_declared (if b then r.Untold else role) ≡ false
labelled true role is = refl
labelled false role is = is

name_used : (u : Unit) (at : NodeRef) (around : NodeKind) (slot : ℕ) → not (may_declare around slot) ≡ true → is_declared (name_role u at around slot) ≡ false
name_used u at around slot is =
    let (stated, declared) = neither (states_names around slot) (declares_names around slot) is in
    labelled (names_label around slot) (stated_or_use u at around slot)
    (ap (λ (b : Bool). is_declared (if b then stated_role (object_at u at) else declared_or_use u at around slot)) stated
    ∙ (ap (λ (b : Bool). is_declared (if b then r.Declared else key_or_use u at around slot)) declared
    ∙ used (is_key around slot) (is_dropped u at) (is_told (family around))))

role_used : (u : Unit) (at : NodeRef) (around : NodeKind) (slot : ℕ) (b : Bool) → (if b then not (may_declare around slot) else true) ≡ true
    → is_declared (if b then name_role u at around slot else r.Part) ≡ false
role_used u at around slot true is = name_used u at around slot is
role_used u at around slot false is = refl

apart : true ≡ false → ⊥
apart e = cc

by_role : (u : Unit) (at : NodeRef) (node : Node) (role : Role) → object_of u at node ≡ done Quiet → is_declared role ≡ false → object_as role u at node ≡ done Quiet
by_role u at node r.Part part other = part
by_role u at node r.Key part other = refl
by_role u at node r.Declared part other = absurd (apart other)
by_role u at node r.Blank part other = refl
by_role u at node r.Untold part other = refl

quiet_beside : (u : Unit) (at : NodeRef) (node : Node) (p : Place) (o : Option Node) → place_at u at ≡ Some p → node_at u (place at.file p.around) ≡ o → is_type_clause node.kind ≡ false
    → option_map_or (is_quiet_in node.kind p) o false ≡ true → object_as (role_at u at node) u at node ≡ done Quiet
quiet_beside u at node p None here there clause is = absurd cc
quiet_beside u at node p (Some around) here there clause is =
    let (early, nothing) = both (is_late around.kind) (declares_nothing node.kind around.kind p.slot) is in
    let role : role_at u at node ≡ role_of u at around.kind p.slot node.kind =
    ap (λ (o : Option Place). option_map_or (role_beside u at node) o r.Part) here ∙ ap (λ (o : Option Node). option_map_or (role_in u at node p) o r.Part) there in
    let part : object_of u at node ≡ done Quiet =
    ap (λ (b : Bool). if b then clause_object u at node else object_of_part u at) clause
    ∙ (ap (λ (o : Option Place). option_map_or (object_in_place u at) o (done Quiet)) here
    ∙ (ap (λ (o : Option Node). option_map_or (object_beside u at) o (done Quiet)) there
    ∙ ap (λ (b : Bool). if b then object_rule u at else done Quiet) early)) in
    ap (λ (x : Role). object_as x u at node) role
    ∙ by_role u at node (role_of u at around.kind p.slot node.kind) part (role_used u at around.kind p.slot (is_name node.kind) nothing)

quiet_part : (u : Unit) (at : NodeRef) (node : Node) (o : Option Place) → place_at u at ≡ o → is_type_clause node.kind ≡ false → option_map_or (is_quiet_beside u at node) o false ≡ true
    → object_as (role_at u at node) u at node ≡ done Quiet
quiet_part u at node None here clause is = absurd cc
quiet_part u at node (Some p) here clause is = quiet_beside u at node p (node_at u (place at.file p.around)) here refl clause is

quiet_object : (u : Unit) (at : NodeRef) (node : Node) → is_quiet_object u at node ≡ true → object_as (role_at u at node) u at node ≡ done Quiet
quiet_object u at node is =
    let (clause, part) = both (is_type_clause node.kind) (option_map_or (is_quiet_beside u at node) (place_at u at) false) is in
    quiet_part u at node (place_at u at) refl clause part

quiet_under : (u : Unit) (at : NodeRef) → is_quiet_under u at ≡ true → under_rule u at ≡ done Quiet
quiet_under u at is = ap (λ (b : Bool). if b then type_rule u at else done Quiet) (unset (is_among at (defined u)) is)

own : (b test : Bool) (rest : Rule) → (test ≡ true → rest ≡ done Quiet) → (if b then test else true) ≡ true → (if b then rest else done Quiet) ≡ done Quiet
own true test rest each is = each is
own false test rest each is = refl

-- ---- items

quiet_stage : (stage : Stage) (u : Unit) (block : ℕ) (at : NodeRef) (node : Node) → is_quiet_stage stage u block at node ≡ true → stage_rule stage u block at node ≡ done Quiet
quiet_stage s.Before u block at node is = quiet_before u block at node is
quiet_stage s.Wanted u block at node is = absurd cc
quiet_stage s.Judged u block at node is = absurd cc
quiet_stage s.Placed u block at node is = absurd cc
quiet_stage s.Object u block at node is = own (block == at.file) (is_quiet_object u at node) (object_as (role_at u at node) u at node) (quiet_object u at node) is
quiet_stage s.Under u block at node is = own (block == at.file) (is_quiet_under u at) (under_rule u at) (quiet_under u at) is

pub quiet_rule : (u : Unit) (i : Item) → is_quiet u i ≡ true → rule u i ≡ done Quiet
quiet_rule u i is =
    either_way (is_quiet_passage u i) (file_rule u i) true (passage_at u i.block)
    (λ p. either_way (is_quiet_nth u i p.file) (nth_rule u i p.file) true (number i.node)
    (λ n. either_way (is_quiet_node u i (place p.file n)) (node_rule u i (place p.file n)) true (node_at u (place p.file n)) (λ node. quiet_stage i.stage u i.block (place p.file n) node))) is

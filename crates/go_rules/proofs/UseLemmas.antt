-- The rule of a use of what is declared in the package, where no type is wanted, asks for the mark of the object alone.
use Rattle.std.proofs.Common.{◌≡◌, ℕ, Bool, true, false, not, ◌&&◌, List, [], Option, Some, None, length, refl, sym, ap, ◌∙◌, eqb-true}
use Rattle.rule_words.specs.Scenes.{IsScene, sight}
use Rattle.std.specs.Prelude.{◌==◌, if◌then◌else◌}
use Rattle.go_tree.specs.declared.bindings.Object.{Object}
use Rattle.go_tree.specs.declared.bindings.Object.TheVariants as o
use Rattle.go_tree.specs.declared.tree.Node.{Node}
use Rattle.go_tree.specs.declared.tree.NodeKind.{NodeKind}
use Rattle.go_tree.specs.declared.tree.NodeKind.TheVariants as k
use Rattle.go_tree.specs.declared.tree.NodeRef.{NodeRef}
use Rattle.mark_walk.specs.Asks.{done, bind}
use Rattle.mark_walk.specs.Telling.{tell}
use Rattle.package_objects.specs.Declares.{gather, items, part}
use Rattle.type_model.specs.Tables.{types_in}
use Rattle.typed_tree.specs.declared.place.Want.{Want as Demand}
use Rattle.typed_marks.specs.declared.item.Stage.{Stage}
use Rattle.typed_marks.specs.declared.mark.Want.{Want}
use Rattle.typed_marks.specs.declared.mark.Want.TheVariants as w
use Rattle.typed_marks.specs.declared.state.State.{State}
use Rattle.typed_marks.specs.Meanings.{Free, wish_in}
use Rattle.unit_read.specs.declared.subject.Subject.{Subject}
use Rattle.unit_read.specs.Subjects.{unit_of}
use Rattle.unit_read.specs.Units.{Unit, nodes_at, first_spelled, is_blank, object_at}
use Rattle.rule_words.specs.declared.step.Step.{Step}
use Rattle.rule_words.specs.declared.wanted.Wanted.{Wanted as InCode}
use Rattle.rule_words.specs.Asking.{Rule, part_ask, ask_each}
use Rattle.rule_words.specs.Parts.{slot_reads}
use Rattle.rule_words.specs.Steps.{step_in}
use Rattle.rule_words.specs.Wanting.{wanted_of}
use Rattle.rule_words.specs.Words.{Wanted}
use Rattle.type_answers.specs.Coming.{ComesTo}
use Rattle.type_answers.proofs.ComingLaws.{same_comes}
use Rattle.op_rules.specs.Forms.{form_of}
use Rattle.op_rules.specs.Names.{object_ask, denoted, name_rule, iota_of, blank}
use Rattle.op_rules.specs.Rules.{free_ask, freed_rule, form_rule}
use Rattle.go_rules.specs.Families.{family, reads_by, rule_by}
use Rattle.go_rules.specs.Roles.{is_name}
use Rattle.go_rules.specs.Stages.{from_parts, with_parts}
use Rattle.go_rules.specs.Uses.{declared_at, is_written, is_alone, is_plain_name, is_free, is_free_use, free_use}

-- what is declared at a name of the package denotes that
denoted_at : (u : Unit) (iota : Option ℕ) (object : Option Object) (name : NodeRef) → declared_at object ≡ Some name → denoted u iota Free object ≡ object_ask u name Free
denoted_at u iota None name is = absurd cc
denoted_at u iota (Some (o.Universe i)) name is = absurd cc
denoted_at u iota (Some (o.Import at)) name is = absurd cc
denoted_at u iota (Some (o.Local other)) name is = let same : other ≡ name = cc in ap (λ n. object_ask u n Free) same
denoted_at u iota (Some (o.Package other)) name is = let same : other ≡ name = cc in ap (λ n. object_ask u n Free) same

-- a name that is no blank
name_denotes : (u : Unit) (block : ℕ) (at : NodeRef) (node : Node) (demand : Demand) → is_blank (first_spelled u at.file node) ≡ false
    → name_rule u block at node (record { demand = demand; wish = Free }) ≡ denoted u (iota_of u block at) Free (object_at u at)
unfolding name_rule
name_denotes u block at node demand written =
    ap (λ (b : Bool). if b then done (blank demand Free) else denoted u (iota_of u block at) Free (object_at u at)) written

pub name_kind : (kind : NodeKind) → is_name kind ≡ true → kind ≡ k.Name
name_kind k.Name is = refl
name_kind _ is = absurd cc

-- a name, from no parts, where no type is wanted
name_by : (u : Unit) (block : ℕ) (at : NodeRef) (node : Node) (demand : Demand) → node.kind ≡ k.Name
    → rule_by (family node.kind) u block at node [] (record { demand = demand; wish = Free }) ≡ name_rule u block at node (record { demand = demand; wish = Free })
unfolding free_ask freed_rule form_rule form_of
name_by u block at node demand kind =
    ap (λ kd. rule_by (family kd) u block at node [] (record { demand = demand; wish = Free })) kind
    ∙ ap (λ kd. form_rule u block at node [] (record { demand = demand; wish = Free }) (form_of kd)) kind

-- from the parts of a node that has none
from_none : (u : Unit) (stage : Stage) (block : ℕ) (at : NodeRef) (node : Node) (w : Wanted) → length node.parts ≡ 0
    → with_parts u stage block at node w ≡ from_parts u block at node w []
from_none u stage block at node w alone =
    ap (λ n. bind (ask_each (part_ask u stage block) (gather (λ slot. slot_reads (reads_by (family node.kind) node.kind slot) (items (nodes_at u at.file) (part node slot))) n))
    (from_parts u block at node w)) alone

both : (a b : Bool) → (a && b) ≡ true → (a ≡ true) × (b ≡ true)
both true true is = (refl, refl)
both true false is = absurd cc
both false b is = absurd cc

chosen : (b : Bool) (found : Option NodeRef) (name : NodeRef) → (if b then found else None) ≡ Some name → (b ≡ true) × (found ≡ Some name)
chosen true found name is = (refl, is)
chosen false found name is = absurd cc

not_so : (b : Bool) → not b ≡ true → b ≡ false
not_so true is = absurd cc
not_so false is = refl

free_want : (want : Want) → is_free want ≡ true → want ≡ w.Free
free_want w.Free is = refl
free_want (w.Takes to) is = absurd cc
free_want (w.Fits to) is = absurd cc
free_want (w.Assigned to) is = absurd cc

-- what a node uses that is declared at a name
use_rule : (u : Unit) (stage : Stage) (block : ℕ) (at : NodeRef) (node : Node) (demand : Demand) (name : NodeRef) → is_plain_name u at node ≡ true → declared_at (object_at u at) ≡ Some name
    → with_parts u stage block at node (record { demand = demand; wish = Free }) ≡ object_ask u name Free
use_rule u stage block at node demand name plain object =
    let (kind, alone) = both (is_name node.kind) (is_alone u at node) plain in
    let (none, written) = both (length node.parts == 0) (is_written u at node) alone in
    from_none u stage block at node (record { demand = demand; wish = Free }) (eqb-true (length node.parts) 0 none)
    ∙ (name_by u block at node demand (name_kind node.kind kind)
    ∙ (name_denotes u block at node demand (not_so (is_blank (first_spelled u at.file node)) written) ∙ denoted_at u (iota_of u block at) (object_at u at) name object))

-- what the mark of what is declared tells of its use is what comes of the rule of that
pub use_comes : (u : Subject) (s : State) (stage : Stage) (block : ℕ) (at : NodeRef) (node : Node) (wanted : InCode) (name : NodeRef) (step : Step) → IsScene u s → free_use (unit_of u) at node wanted.want ≡ Some name
    → step_in s step ≡ tell (sight s) (object_ask (unit_of u) name Free) → ComesTo u s (with_parts (unit_of u) stage block at node (wanted_of s wanted)) step
use_comes u s stage block at node wanted name step scene uses told =
    let (holds, object) = chosen (is_free_use (unit_of u) at node wanted.want) (declared_at (object_at (unit_of u) at)) name uses in
    let (free, plain) = both (is_free wanted.want) (is_plain_name (unit_of u) at node) holds in
    let same : wanted_of s wanted ≡ record { demand = wanted.demand; wish = Free } = ap (λ (want : Want). record { demand = wanted.demand; wish = wish_in (types_in s.table) want }) (free_want wanted.want free) in
    same_comes u s (with_parts (unit_of u) stage block at node (wanted_of s wanted)) step scene
    (told ∙ sym (ap (tell (sight s)) (ap (with_parts (unit_of u) stage block at node) same ∙ use_rule (unit_of u) stage block at node wanted.demand name plain object)))

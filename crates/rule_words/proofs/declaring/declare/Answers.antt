use Rattle.std.proofs.Common.{◌≡◌, ◌∙◌, sym, ap, subst, true, Some, None}
use Rattle.type_model.specs.declared.term.TypeName.{TypeName}
use Rattle.type_model.specs.GoTypes.{GoType, DefinedType, is_defined}
use Rattle.type_questions.specs.Judging.{IsItemOf}
use Rattle.typed_marks.specs.States.{so_far}
use Rattle.unit_read.specs.Units.{base_of}
use Rattle.unit_read.specs.Subjects.{full_of, unit_of}
use Rattle.rule_words.specs.Asking.{type_item}
use Rattle.rule_words.specs.Scenes.{type_in}
use Rattle.rule_words.proofs.SceneLemmas.{own_full}
use Rattle.rule_words.proofs.DeclareLemmas.{one_name, undeclared, apart, declared_scene}
use Rattle.rule_words.proofs.declaring.declare.Goals as goal

pub name_of-requires-clause-defined : goal.name_of-requires-clause-defined
name_of-requires-clause-defined c = ap is_defined c.requires.is.named

pub declare-requires-clause-fresh : goal.declare-requires-clause-fresh
declare-requires-clause-fresh c =
    let s = c.args.s.now in
    let is = c.requires.is in
    let same = one_name (type_in s c.args.of) is.name c.in_ok-name.name is.named c.in_ok-name.ensures in
    undeclared c.args.u.now s c.args.item c.in_ok-name.name c.requires.scene c.requires.unmarked
    (subst (λ (n : TypeName). type_item (unit_of c.args.u.now) n ≡ Some c.args.item) same is.own.here) (subst (λ (n : TypeName). base_of (full_of c.args.u.now) n ≡ None) same (own_full c.args.u.now s c.requires.scene is.name c.args.item is.own.here is.base))

pub declare-requires-clause-apart : goal.declare-requires-clause-apart
declare-requires-clause-apart c meets =
    let s = c.args.s.now in
    let is = c.requires.is in
    let same = one_name (type_in s c.args.of) is.name c.in_ok-name.name is.named c.in_ok-name.ensures in
    apart s c.in_ok-name.name (type_in s c.args.under) c.requires.whole
    (undeclared c.args.u.now s c.args.item c.in_ok-name.name c.requires.scene c.requires.unmarked
    (subst (λ (n : TypeName). type_item (unit_of c.args.u.now) n ≡ Some c.args.item) same is.own.here) (subst (λ (n : TypeName). base_of (full_of c.args.u.now) n ≡ None) same (own_full c.args.u.now s c.requires.scene is.name c.args.item is.own.here is.base))) meets

pub returns-clause-scene : goal.returns-clause-scene
returns-clause-scene c =
    let u = c.args.u.now in
    let s = c.args.s.now in
    let is = c.requires.is in
    let same = one_name (type_in s c.args.of) is.name c.in_ok-name.name is.named c.in_ok-name.ensures in
    let made = c.in_ok-declare.ensures in
    declared_scene u s c.declare.new.self c.args.item c.args.of c.args.under c.args.methods.items c.in_ok-name.name c.requires.scene c.requires.unmarked
    (subst (λ (n : TypeName). IsItemOf (type_item (unit_of u)) n c.args.item) same is.own) (subst (λ (n : TypeName). base_of (full_of u) n ≡ None) same (own_full u s c.requires.scene is.name c.args.item is.own.here is.base))
    made.state made.adds made.declares made.blocks

use Rattle.std.proofs.Common.{◌≡◌, ℕ, List, Option, option_map, sym, ap, ◌∙◌, subst}
use Rattle.type_model.specs.declared.term.TypeId.{TypeId}
use Rattle.type_model.specs.Declarations.{Declarations}
use Rattle.type_model.specs.Tables.{declarations_in}
use Rattle.unit_read.specs.Units.{last_spelled}
use Rattle.rule_words.specs.Scenes.{type_in}
use Rattle.selected_methods.specs.Selected.{declared_by}
use Rattle.selected_methods.proofs.ChosenLemmas.{table_declares}
use Rattle.findings.specs.Passes.{unit_in, marks_in}
use Rattle.member_names.specs.Named.{owner_of, IsMethodNamed}
use Rattle.member_names.specs.InCode.{found_named, Finds}
use Rattle.member_names.proofs.NamedLemmas.{what_some, what_nothing}
use Rattle.member_names.proofs.naming.owned_method.Goals as goal

pub returns-in_ok-named-in-Some : goal.returns-in_ok-named-in-Some
returns-in_ok-named-in-Some c =
    let p = c.args.p.now in
    let s = p.state.now in
    let u = unit_in p in
    let marks = marks_in p in
    let of = type_in s c.in-Some.of in
    let name = last_spelled u c.args.file c.args.node.now in
    what_some (owner_of marks c.args.file c.args.node.now) (IsMethodNamed u (declared_by u marks) name) of (found_named c.in_ok-named-in-Some.named)
    (sym c.owner_of.ensures.is ∙ ap (λ (o : Option TypeId). option_map (type_in s) o) c.in-Some.is)
    (subst (λ (d : Declarations). Finds (IsMethodNamed u d name of) c.in_ok-named-in-Some.named) (table_declares p.subject.now s c.requires.scene)
    (subst (λ (n : List ℕ). Finds (IsMethodNamed u (declarations_in s.table) n of) c.in_ok-named-in-Some.named) c.spelled_text.ensures c.in_ok-named-in-Some.ensures))

pub returns-in-None : goal.returns-in-None
returns-in-None c =
    let p = c.args.p.now in
    let u = unit_in p in
    let marks = marks_in p in
    what_nothing (owner_of marks c.args.file c.args.node.now) (IsMethodNamed u (declared_by u marks) (last_spelled u c.args.file c.args.node.now))
    (sym c.owner_of.ensures.is ∙ ap (λ (o : Option TypeId). option_map (type_in p.state.now) o) c.in-None.is)

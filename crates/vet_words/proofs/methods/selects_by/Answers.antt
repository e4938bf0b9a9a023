use Rattle.std.proofs.Common.{◌≡◌, ◌↔◌, ℕ, Bool, true, List, Option, option_map, ap, ◌∙◌, subst, sym}
use Rattle.type_model.specs.declared.term.TypeId.{TypeId}
use Rattle.type_model.specs.Tables.{declarations_in}
use Rattle.rule_words.specs.Scenes.{type_in}
use Rattle.selected_methods.proofs.ChosenLemmas.{table_declares}
use Rattle.findings.specs.Passes.{unit_in, marks_in}
use Rattle.vet_words.specs.Called.{IsMethodOf}
use Rattle.vet_words.proofs.MethodLemmas.{selects_owned, selects_unowned}
use Rattle.vet_words.proofs.methods.selects_by.Goals as goal

pub returns-in_ok-found-in-Some : goal.returns-in_ok-found-in-Some
returns-in_ok-found-in-Some c =
    let p = c.args.p.now in
    let s = p.state.now in
    let of = type_in s c.in-Some.of in
    let owns = sym c.owner_of.ensures.is ∙ ap (λ (o : Option TypeId). option_map (type_in s) o) c.in-Some.is in
    selects_owned (unit_in p) (marks_in p) c.args.file c.args.node.now (declarations_in s.table) of c.in_ok-found-in-Some.found owns (table_declares p.subject.now s c.requires.pass.scene) c.requires.selects
    (subst (λ (n : List ℕ). (c.in_ok-found-in-Some.found ≡ true) ↔ IsMethodOf (unit_in p) (declarations_in s.table) n of) c.spelled_text.ensures c.in_ok-found-in-Some.ensures)

pub returns-in-None : goal.returns-in-None
returns-in-None c =
    let p = c.args.p.now in
    let owns = sym c.owner_of.ensures.is ∙ ap (λ (o : Option TypeId). option_map (type_in p.state.now) o) c.in-None.is in
    selects_unowned (unit_in p) (marks_in p) c.args.file c.args.node.now owns

use Rattle.std.proofs.Common.{Option, option_map, sym, ap, ◌∙◌, subst}
use Rattle.type_model.specs.Declarations.{Declarations}
use Rattle.typed_marks.specs.declared.mark.Facts.{Facts}
use Rattle.typed_marks.specs.Meanings.{Known}
use Rattle.rule_words.specs.Good.{known_of}
use Rattle.rule_words.specs.Scenes.{type_in}
use Rattle.selected_methods.specs.Selected.{declared_by}
use Rattle.selected_methods.proofs.ChosenLemmas.{table_declares}
use Rattle.findings.specs.Passes.{unit_in, marks_in}
use Rattle.vet_printf.specs.Tables.{IsArgumentOf}
use Rattle.vet_printf.specs.Calls.{IsTold}
use Rattle.vet_printf.proofs.arguments.told_argument.Goals as goal

pub returns-in_ok-argument-in-Some : goal.returns-in_ok-argument-in-Some
returns-in_ok-argument-in-Some c =
    let p = c.args.p.now in
    let s = p.state.now in
    subst (λ (o : Option Known). IsTold (declared_by (unit_in p) (marks_in p)) c.in_ok-argument-in-Some.argument o) (ap (λ (o : Option Facts). option_map (known_of s) o) (sym c.in-Some.is) ∙ c.known_at.ensures.is)
    (subst (λ (d : Declarations). IsArgumentOf d (type_in s c.in-Some.x.last) c.in_ok-argument-in-Some.argument) (table_declares p.subject.now s c.requires.pass.scene) c.in_ok-argument-in-Some.ensures)

pub returns-in-None : goal.returns-in-None
returns-in-None c =
    let p = c.args.p.now in
    subst (λ (o : Option Known). IsTold (declared_by (unit_in p) (marks_in p)) c.any_argument.result o) (ap (λ (o : Option Facts). option_map (known_of p.state.now) o) (sym c.in-None.is) ∙ c.known_at.ensures.is)
    c.any_argument.ensures

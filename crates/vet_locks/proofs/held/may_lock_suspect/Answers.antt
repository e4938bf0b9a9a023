use Rattle.std.proofs.Common.{◌≡◌, Option, option_map, true, sym, ap, ◌∙◌}
use Rattle.type_model.specs.declared.term.TypeId.{TypeId}
use Rattle.type_model.specs.GoTypes.{GoType}
use Rattle.rule_words.specs.Scenes.{type_in}
use Rattle.selected_methods.specs.Selected.{declared_by}
use Rattle.findings.specs.Passes.{unit_in, marks_in}
use Rattle.lock_types.specs.InTable.{holds_type}
use Rattle.vet_locks.specs.CopyLocks.{suspect_type}
use Rattle.vet_locks.proofs.ReportLemmas.{some_says, none_says}
use Rattle.vet_locks.proofs.held.may_lock_suspect.Goals as goal

pub returns-in-Some : goal.returns-in-Some
returns-in-Some c =
    let p = c.args.p.now in
    let s = p.state.now in
    some_says (λ (of : GoType). holds_type (declared_by (unit_in p) (marks_in p)) of ≡ true) (suspect_type (marks_in p) c.args.file c.args.s) (type_in s c.in-Some.of) c.may_lock.result
    (sym c.suspect_type.ensures.is ∙ ap (λ (o : Option TypeId). option_map (type_in s) o) c.in-Some.is) (λ e. sym c.may_lock.ensures ∙ e, λ e. c.may_lock.ensures ∙ e)

pub returns-in-None : goal.returns-in-None
returns-in-None c =
    let p = c.args.p.now in
    none_says (λ (of : GoType). holds_type (declared_by (unit_in p) (marks_in p)) of ≡ true) (suspect_type (marks_in p) c.args.file c.args.s)
    (sym c.suspect_type.ensures.is ∙ ap (λ (o : Option TypeId). option_map (type_in p.state.now) o) c.in-None.is)

use Rattle.std.proofs.Common.{Option, option_map, sym, ap, ◌∙◌}
use Rattle.type_model.specs.declared.term.TypeId.{TypeId}
use Rattle.rule_words.specs.Scenes.{type_in}
use Rattle.selected_methods.specs.Selected.{declared_by}
use Rattle.findings.specs.Passes.{unit_in, marks_in}
use Rattle.lock_types.specs.Locks.{IsLock}
use Rattle.vet_locks.specs.CopyLocks.{suspect_type}
use Rattle.vet_locks.proofs.ReportLemmas.{some_says, none_says}
use Rattle.vet_locks.proofs.copy_locks.is_lock_suspect.Goals as goal

pub returns-in-Some : goal.returns-in-Some
returns-in-Some c =
    let p = c.args.p.now in
    let s = p.state.now in
    some_says (IsLock (declared_by (unit_in p) (marks_in p))) (suspect_type (marks_in p) c.args.file c.args.s) (type_in s c.in-Some.of) c.is_lock.result
    (sym c.suspect_type.ensures.is ∙ ap (λ (o : Option TypeId). option_map (type_in s) o) c.in-Some.is) c.is_lock.ensures

pub returns-in-None : goal.returns-in-None
returns-in-None c =
    let p = c.args.p.now in
    none_says (IsLock (declared_by (unit_in p) (marks_in p))) (suspect_type (marks_in p) c.args.file c.args.s) (sym c.suspect_type.ensures.is ∙ ap (λ (o : Option TypeId). option_map (type_in p.state.now) o) c.in-None.is)

use Rattle.std.proofs.Common.{◌≡◌, ◌↔◌, Bool, true, sym, subst}
use Rattle.type_model.specs.Tables.{declarations_in}
use Rattle.rule_words.specs.Scenes.{type_in}
use Rattle.selected_methods.specs.Selected.{declared_by}
use Rattle.selected_methods.proofs.ChosenLemmas.{table_declares}
use Rattle.findings.specs.Passes.{unit_in, marks_in}
use Rattle.lock_types.specs.Locks.{IsLock}
use Rattle.lock_types.specs.InTable.{lock_at}
use Rattle.vet_locks.proofs.ReportLemmas.{flag_says}
use Rattle.vet_locks.proofs.copy_locks.is_lock.Goals as goal

pub returns : goal.returns
returns c =
    let p = c.args.p.now in
    let s = p.state.now in
    let of = type_in s c.args.id in
    subst (λ (b : Bool). (b ≡ true) ↔ IsLock (declared_by (unit_in p) (marks_in p)) of) (sym c.flag_at.ensures)
    (flag_says (declarations_in s.table) (declared_by (unit_in p) (marks_in p)) of (lock_at c.args.locks.now c.args.id.0) (table_declares p.subject.now s c.requires.pass.scene)
    (c.requires.locks.each c.args.id.0 c.requires.within))

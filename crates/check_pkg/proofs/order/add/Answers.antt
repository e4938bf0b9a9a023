use Rattle.std.proofs.Common.{◌≡◌, ◌-◌, List, length, slice_get, None, sym, ap, ◌∙◌, subst}
use Rattle.check_pkg.specs.declared.refusal.Refusal.{Refusal}
use Rattle.check_pkg.specs.Faults.{Precedes}
use Rattle.check_pkg.proofs.Lists.{same_some}
use Rattle.check_pkg.proofs.ListLemmas.{adds_push}
use Rattle.check_pkg.proofs.order.add.Goals.{in-Some, in-None}
use Rattle.check_pkg.proofs.order.add.Goals as goal

pub returns-in_ok-push : goal.returns-in_ok-push
returns-in_ok-push c =
    adds_push c.args.list.now.items c.push.new.self.items c.args.refusal c.in_ok-push.ensures.items
    (λ last there. elim c.match-last.branch [
      | in-Some w ↦
          subst (λ (x : Refusal). Precedes x c.args.refusal)
          (same_some (slice_get c.args.list.now.items (length c.args.list.now.items - 1)) w.in-Some.last.now last
          (ap (λ (xs : List Refusal). slice_get xs (length xs - 1)) (sym c.deref.ensures.value) ∙ sym w.in-Some.ensures.value) there)
          (w.precedes-is_new.ensures.before (sym w.is_new-is ∙ c.if-is_new.true))
      | in-None w ↦
          (let none : slice_get c.args.list.now.items (length c.args.list.now.items - 1) ≡ None =
          ap (λ (xs : List Refusal). slice_get xs (length xs - 1)) (sym c.deref.ensures.value) ∙ sym w.in-None.ensures.value in absurd cc)
    ])

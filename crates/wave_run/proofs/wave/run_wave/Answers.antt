use Rattle.std.proofs.Common.{◌≡◌, ◌+◌, ℕ, sym, ap, subst, length}
use Rattle.std.specs.Prelude.{IfOk, OnOk, IsOk}
use Rattle.wave_run.specs.Numbers.{total, below, AreBelow}
use Rattle.wave_run.specs.Turns.{weight_of}
use Rattle.wave_run.specs.Places.{AreByNumber}
use Rattle.wave_run.proofs.Finishing.{orderly, each_once_drawn, all_numbers, all_counted, all_answered, all_spent, costs}
use Rattle.wave_run.proofs.wave.run_wave.Goals as goal

pub ordered-answers-requires : goal.ordered-answers-requires
ordered-answers-requires g c =
    let size : length c.as_slice.result.now ≡ length c.args.jobs.now.items = ap length c.as_slice.ensures.value in
    subst (λ (k : ℕ). IfOk c.fork-found.result (λ v. (f : ℕ → ℕ) → total (weight_of f) v.items ≡ below f k)) (sym size)
    (orderly _ _ _ _ _ _ _ _ _ _ _ _ c.requires.pass.1 c.fork-found.ensures c.requires.workers.0 c.requires.workers.1 c.requires.few c.look-drawn.ensures.closes)

pub returns-clause-once : goal.returns-clause-once
returns-clause-once g c =
    subst (λ v. AreBelow (length v.drawn) v.drawn) (sym c.look-drawn.ensures.same.1)
    (each_once_drawn _ _ _ _ _ _ _ _ _ _ _ _ c.requires.pass.1 c.fork-found.ensures c.requires.workers.0 c.requires.workers.1 c.requires.few c.look-drawn.ensures.closes)

pub returns-clause-drawn : goal.returns-clause-drawn
returns-clause-drawn g c =
    let size : length c.as_slice.result.now ≡ length c.args.jobs.now.items = ap length c.as_slice.ensures.value in
    let o = subst (λ (k : ℕ). IfOk c.ordered-answers.result (λ v. IsOk c.fork-found.result × IfOk c.fork-found.result (λ w. AreByNumber w.items k v.items))) size c.ordered-answers.ensures in
    subst (λ v. OnOk c.ordered-answers.result (AreBelow (length c.args.jobs.now.items + length c.args.workers.now) v.drawn)) (sym c.look-drawn.ensures.same.1)
    (all_numbers _ _ _ _ _ _ _ _ _ _ _ _ c.requires.pass.1 c.fork-found.ensures c.requires.workers.0 c.requires.workers.1 c.requires.few c.look-drawn.ensures.closes _ o)

pub returns-clause-counted : goal.returns-clause-counted
returns-clause-counted g c =
    let size : length c.as_slice.result.now ≡ length c.args.jobs.now.items = ap length c.as_slice.ensures.value in
    let o = subst (λ (k : ℕ). IfOk c.ordered-answers.result (λ v. IsOk c.fork-found.result × IfOk c.fork-found.result (λ w. AreByNumber w.items k v.items))) size c.ordered-answers.ensures in
    let p = c.requires.pass.1 in let f = c.fork-found.ensures in let l = c.look-drawn.ensures.closes in (
      costs _ _ _ _ _ _ _ _ _ _ _ _ p f c.requires.workers.0 c.requires.workers.1 c.requires.few l,
      all_spent _ _ _ _ _ _ _ _ _ _ _ _ p f c.requires.workers.0 c.requires.workers.1 c.requires.few l,
      all_counted _ _ _ _ _ _ _ _ _ _ _ _ p f c.requires.workers.0 c.requires.workers.1 c.requires.few l,
      all_answered _ _ _ _ _ _ _ _ _ _ _ _ p f c.requires.workers.0 c.requires.workers.1 c.requires.few l _ o,
    )

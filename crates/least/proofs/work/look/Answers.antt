use Rattle.std.proofs.Common.{◌≡◌, ◌<◌, ◌∷◌, ◌∙◌, ℕ, List, Bool, false, arith, sym, subst}
use Rattle.std.specs.List.{Contains}
use Rattle.std.proofs.lemmas.List.{length-set}
use Rattle.least.specs.Work.{set_of, IsSoFar, IsQueued}
use Rattle.least.proofs.WorkLemmas.{waits_no_more, joins, less_left, first_in, unmarked, not_true}
use Rattle.least.proofs.work.look.Goals as goal

first : (count : ℕ) (admits : (ℕ → Bool) → ℕ → Type 0) (flags marks : List Bool) (at : ℕ) (queue : List ℕ)
    → IsSoFar count admits flags marks (at ∷ queue) → at < count
first count admits flags marks at queue s = s.items at (first_in at queue)

pub set-requires : goal.set-requires
set-requires g c = let s = c.requires.so_far in let lt = first _ _ _ _ _ _ s in let e = s.marks_size in omega arith

pub is_set-requires : goal.is_set-requires
is_set-requires g c = let s = c.requires.so_far in let lt = first _ _ _ _ _ _ s in let e = s.size in omega arith

pub returns-then-is_set-clause-so_far : goal.returns-then-is_set-clause-so_far
returns-then-is_set-clause-so_far g c =
    rw c.set.ensures (waits_no_more _ _ _ _ _ _ c.requires.so_far (λ _. sym c.is_set.ensures ∙ c.if-is_set.true))

pub judge-requires-clause-at : goal.judge-requires-clause-at
judge-requires-clause-at g c = first _ _ _ _ _ _ c.requires.so_far

pub returns-then-not-admitted-clause-so_far : goal.returns-then-not-admitted-clause-so_far
returns-then-not-admitted-clause-so_far g c =
    rw c.set.ensures (waits_no_more _ _ _ _ _ _ c.requires.so_far
    (λ a. absurd (not_true _ c.if-not-admitted.true
    (c.in_ok-admitted.ensures.1 (subst (λ l. g.A.Admission.admits c.args.admission.now (set_of l) c.args.at) (sym c.as_slice.ensures.value) a)))))

pub set-requires-2 : goal.set-requires-2
set-requires-2 g c = let s = c.requires.so_far in let lt = first _ _ _ _ _ _ s in let e = s.size in omega arith

pub readers-requires : goal.readers-requires
readers-requires g c = record { at = first _ _ _ _ _ _ c.requires.so_far }

pub wait_too-requires-clause-within : goal.wait_too-requires-clause-within
wait_too-requires-clause-within g c i reads =
    let s = c.requires.so_far in
    let lt = g.met.A.Admission.within c.args.admission.now c.args.at i (subst (λ l. Contains l i) c.readers.ensures reads) in
    let size = s.marks_size in
    let marks = length-set c.args.marks.now.items c.args.at false in
    rw c.set.ensures (omega arith)

pub wait_too-requires-clause-marked : goal.wait_too-requires-clause-marked
wait_too-requires-clause-marked g c =
    let s = c.requires.so_far in
    let lt = first _ _ _ _ _ _ s in
    let size = s.marks_size in
    rw c.set.ensures (unmarked c.args.marks.now.items c.args.at c.args.queue.now.items (omega arith) s.marked)

pub returns-clause-so_far : goal.returns-clause-so_far
returns-clause-so_far g c =
    let s = c.requires.so_far in
    let a = subst (λ l. g.A.Admission.admits c.args.admission.now (set_of l) c.args.at) c.as_slice.ensures.value (c.in_ok-admitted.ensures.0 c.if-not-admitted.false) in
    let q = c.in_ok-wait_too.ensures in
    rw c.set-2.ensures (joins _ _ (g.A.Admission.readers c.args.admission.now) _ _ _ _ _ _ (g.met.A.Admission.monotone c.args.admission.now)
    (g.met.A.Admission.local c.args.admission.now) (g.met.A.Admission.within c.args.admission.now) s a
    (rw (sym c.readers.ensures) (rw (sym c.set.ensures) q)))

pub returns-clause-less : goal.returns-clause-less
returns-clause-less g c =
    let s = c.requires.so_far in
    let lt = first _ _ _ _ _ _ s in
    let size = s.size in
    let unset : set_of c.args.flags.now.items c.args.at ≡ false = sym c.is_set.ensures ∙ c.if-is_set.false in
    let q = c.in_ok-wait_too.ensures in
    rw c.set-2.ensures
    (less_left (g.A.Admission.readers c.args.admission.now) c.args.flags.now.items c.set.new.flags.items c.args.queue.now.items c.args.at c.wait_too.new.marks.items c.wait_too.new.queue.items (omega arith) unset
    (subst (λ l. IsQueued l c.set.new.flags.items c.args.queue.now.items c.wait_too.new.marks.items c.wait_too.new.queue.items) c.readers.ensures q))

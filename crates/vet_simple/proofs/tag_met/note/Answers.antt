use Rattle.std.proofs.Common.{ℕ, List, ap, sym, ◌∙◌}
use Rattle.vet_simple.specs.InRuns.{kept}
use Rattle.vet_simple.proofs.RunLemmas.{note_old, note_new}
use Rattle.vet_simple.proofs.tag_met.note.Goals as goal

pub returns-in-Some-clause-after : goal.returns-in-Some-clause-after
returns-in-Some-clause-after c = λ k.
    note_old c.args.met.now c.args.key.items c.args.i c.in-Some.before (ap (λ (q : List ℕ). kept c.args.met.now q) (sym c.deref.ensures.value) ∙ (sym c.get.ensures ∙ c.in-Some.is)) k

pub returns-in_ok-put-in-None-clause-after : goal.returns-in_ok-put-in-None-clause-after
returns-in_ok-put-in-None-clause-after c = λ k.
    note_new c.args.met.now c.put.new.met c.args.key.items c.args.i (ap (λ (q : List ℕ). kept c.args.met.now q) (sym c.deref.ensures.value) ∙ (sym c.get.ensures ∙ c.in-None.is))
    c.in_ok-put-in-None.ensures k

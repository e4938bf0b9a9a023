use Rattle.std.proofs.Common.{◌-◌, ℕ, Option, None, option_and_then, sym, ap, ◌∙◌, arith}
use Rattle.unit_read.specs.declared.place.Place.{Place}
use Rattle.findings.specs.Passes.{unit_in}
use Rattle.vet_simple.specs.Bools.{around_by, around_from}
use Rattle.vet_simple.proofs.ChainLemmas.{around_more}
use Rattle.vet_simple.proofs.chains.+around.Goals as goal

pub around_from-returns-in-Some : goal.around_from-returns-in-Some
around_from-returns-in-Some t c =
    let u = unit_in c.args.p.now in
    let f = c.args.file in
    let less = c.args.most - 1 in
    c.around_by.ensures
    ∙ sym (around_more u f c.args.most less c.args.n (omega arith) ∙ ap (λ (o : Option Place). option_and_then (around_by u f (around_from u f less)) o) (sym c.place_at.ensures ∙ c.in-Some.is))

pub around_from-returns-in-None : goal.around_from-returns-in-None
around_from-returns-in-None t c =
    let u = unit_in c.args.p.now in
    let f = c.args.file in
    let less = c.args.most - 1 in
    sym (around_more u f c.args.most less c.args.n (omega arith) ∙ ap (λ (o : Option Place). option_and_then (around_by u f (around_from u f less)) o) (sym c.place_at.ensures ∙ c.in-None.is))

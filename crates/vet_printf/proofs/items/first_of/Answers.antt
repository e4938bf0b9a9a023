use Rattle.std.proofs.Common.{◌≡◌, ◌<◌, ℕ, List, Some, length, refl, sym, ap, ◌∙◌, subst}
use Rattle.findings.specs.Passes.{unit_in}
use Rattle.own_functions.specs.Functions.{functions, first_of, nth_name}
use Rattle.own_functions.proofs.ListLemmas.{size_is}
use Rattle.vet_printf.proofs.ItemLemmas.{own_first}
use Rattle.vet_printf.proofs.items.first_of.Goals as goal

pub returns-in-Some : goal.returns-in-Some
returns-in-Some c =
    let u = unit_in c.args.p.now in
    ap (first_of u) (sym c.nth_name.ensures) ∙ (sym (c.requires.known.numbers c.nth_name.result.now) ∙ (sym c.find.ensures ∙ c.in-Some.is))

pub returns-in-None : goal.returns-in-None
returns-in-None c =
    let u = unit_in c.args.p.now in
    absurd (own_first u c.args.i (first_of u (nth_name u c.args.i)) (subst (λ (n : ℕ). c.args.i < n) (size_is u c.args.known.now.list.now c.requires.known.list) c.requires.there) refl
    (ap (first_of u) (sym c.nth_name.ensures) ∙ (sym (c.requires.known.numbers c.nth_name.result.now) ∙ (sym c.find.ensures ∙ c.in-None.is))))

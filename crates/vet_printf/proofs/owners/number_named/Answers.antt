use Rattle.std.proofs.Common.{ℕ, Option, option_and_then, sym, ap, ◌∙◌}
use Rattle.findings.specs.Passes.{unit_in}
use Rattle.vet_printf.specs.Walk.{number_if}
use Rattle.vet_printf.proofs.owners.number_named.Goals as goal

pub returns-in-Some : goal.returns-in-Some
returns-in-Some c =
    c.number_if.ensures ∙ ap (λ (o : Option ℕ). option_and_then (number_if (unit_in c.args.p.now) c.args.file c.args.d) o) (sym c.in-Some.is ∙ (c.find.ensures ∙ c.requires.numbers c.args.name.now))

pub returns-in-None : goal.returns-in-None
returns-in-None c = ap (λ (o : Option ℕ). option_and_then (number_if (unit_in c.args.p.now) c.args.file c.args.d) o) (sym c.in-None.is ∙ (c.find.ensures ∙ c.requires.numbers c.args.name.now))

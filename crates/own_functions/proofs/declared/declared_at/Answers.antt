use Rattle.std.proofs.Common.{Option, ℕ, option_map, slice_get, sym, ap, ◌∙◌}
use Rattle.std.specs.Prelude.{option_and_then}
use Rattle.findings.specs.Passes.{unit_in}
use Rattle.own_functions.specs.Functions.{node_in, functions}
use Rattle.own_functions.proofs.ListLemmas.{nth_at}
use Rattle.own_functions.proofs.declared.declared_at.Goals as goal

pub returns-in-Some : goal.returns-in-Some
returns-in-Some c =
    let u = unit_in c.args.p.now in
    let place = sym (c.find.ensures ∙ c.requires.numbers c.args.name.now) ∙ c.in-Some.is in
    nth_at u c.args.list.now c.in-Some.i c.nth_at.result c.requires.list c.nth_at.ensures ∙ sym (ap (λ (o : Option ℕ). option_map node_in (option_and_then (slice_get (functions u)) o)) place)

pub returns-in-None : goal.returns-in-None
returns-in-None c =
    let u = unit_in c.args.p.now in
    sym (ap (λ (o : Option ℕ). option_map node_in (option_and_then (slice_get (functions u)) o)) (sym (c.find.ensures ∙ c.requires.numbers c.args.name.now) ∙ c.in-None.is))

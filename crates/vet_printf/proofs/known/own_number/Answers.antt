use Rattle.std.proofs.Common.{sym, ap, ◌∙◌, Some, arith}
use Rattle.findings.specs.Passes.{unit_in}
use Rattle.vet_printf.proofs.KnownLemmas.{place_below}
use Rattle.vet_printf.proofs.known.own_number.Goals as goal

pub as_number-requires : goal.as_number-requires
as_number-requires c =
    let low = place_below (unit_in c.args.p.now) c.args.x.now.path c.args.x.now.name c.in-Some.i (sym c.own_place.ensures ∙ c.in-Some.is) in
    let few = c.requires.few in
    omega (arith, low, few)

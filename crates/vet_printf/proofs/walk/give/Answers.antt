use Rattle.std.proofs.Common.{ℕ, Option, Some, length, sym, ap}
use Rattle.findings.specs.Passes.{unit_in}
use Rattle.object_order.specs.Spots.{place}
use Rattle.own_functions.specs.Functions.{functions, number}
use Rattle.vet_printf.specs.Knowing.{handed_in, called_at}
use Rattle.vet_printf.specs.Walk.{both_of}
use Rattle.vet_printf.specs.Wraps.{number_of}
use Rattle.vet_printf.proofs.KnownLemmas.{fills_as}
use Rattle.vet_printf.proofs.walk.give.Goals as goal

pub returns-in_ok-give_to-in-Some : goal.returns-in_ok-give_to-in-Some
returns-in_ok-give_to-in-Some c =
    let u = unit_in c.args.p.now in
    let k = c.args.known.now in
    let kind = number_of c.args.kind in
    let cell = called_at k (place c.args.file c.args.n) in
    fills_as (length (functions u)) (handed_in k) (number kind u) (both_of kind (Some c.in-Some.i) cell) (both_of kind c.args.giver cell) c.args.buckets.now c.give_to.new.buckets
    (ap (λ (o : Option ℕ). both_of kind o cell) (sym c.in-Some.is)) c.in_ok-give_to-in-Some.ensures

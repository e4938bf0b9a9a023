use Rattle.std.proofs.Common.{List, ℕ, Option, Some, None, sym, ap, ◌∙◌, length}
use Rattle.findings.specs.Passes.{unit_in}
use Rattle.member_names.specs.InCode.{named_in}
use Rattle.object_order.specs.Spots.{place}
use Rattle.own_functions.specs.Functions.{functions, number}
use Rattle.vet_printf.specs.Knowing.{handed_in, called_at}
use Rattle.vet_printf.specs.Walk.{given_of, both_of}
use Rattle.vet_printf.specs.Wraps.{number_of}
use Rattle.vet_printf.proofs.KnownLemmas.{fills_as, fills_none}
use Rattle.vet_printf.proofs.walk.give_to.Goals as goal

pub returns-in_ok-put_named-in-Some : goal.returns-in_ok-put_named-in-Some
returns-in_ok-put_named-in-Some c =
    let u = unit_in c.args.p.now in
    let k = c.args.known.now in
    let kind = number_of c.args.kind in
    fills_as (length (functions u)) (handed_in k) (number kind u) (Some (given_of kind c.args.i (named_in c.in-Some.x.now))) (both_of kind (Some c.args.i) (called_at k (place c.args.file c.args.n))) c.args.buckets.now c.put_named.new.buckets
    (ap (λ (o : Option (List ℕ × List ℕ)). both_of kind (Some c.args.i) o) c.in-Some.ensures) c.in_ok-put_named-in-Some.ensures

pub returns-in-None : goal.returns-in-None
returns-in-None c =
    let u = unit_in c.args.p.now in
    let k = c.args.known.now in
    let kind = number_of c.args.kind in
    fills_as (length (functions u)) (handed_in k) (number kind u) (both_of kind (Some c.args.i) None) (both_of kind (Some c.args.i) (called_at k (place c.args.file c.args.n))) c.args.buckets.now c.args.buckets.now
    (ap (λ (o : Option (List ℕ × List ℕ)). both_of kind (Some c.args.i) o) c.in-None.ensures) (fills_none (length (functions u)) (handed_in k) (number kind u) c.args.buckets.now)

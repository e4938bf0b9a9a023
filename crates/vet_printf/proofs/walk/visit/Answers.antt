use Rattle.std.proofs.Common.{ℕ, Option, None, length, ap, ◌∙◌}
use Rattle.findings.specs.Passes.{unit_in, marks_in}
use Rattle.object_order.specs.Spots.{place}
use Rattle.own_functions.specs.Functions.{functions, number}
use Rattle.vet_printf.specs.Knowing.{handed_in, called_at}
use Rattle.vet_printf.specs.Walk.{both_of, giver, contribution}
use Rattle.vet_printf.specs.Wraps.{number_of}
use Rattle.vet_printf.proofs.GiverLemmas.{giver_below}
use Rattle.vet_printf.proofs.KnownLemmas.{fills_as, fills_none, none_given}
use Rattle.vet_printf.proofs.walk.visit.Goals as goal

pub give-requires-clause-below : goal.give-requires-clause-below
give-requires-clause-below c = giver_below (unit_in c.args.p.now) (marks_in c.args.p.now) c.number_of.result c.args.file c.args.n c.in_ok-giver.giver c.in_ok-giver.ensures

pub returns-then-is_called : goal.returns-then-is_called
returns-then-is_called c =
    let u = unit_in c.args.p.now in
    let marks = marks_in c.args.p.now in
    let k = c.args.known.now in
    let kind = number_of c.args.kind in
    let cell = called_at k (place c.args.file c.args.n) in
    fills_as (length (functions u)) (handed_in k) (number kind u) (both_of kind c.in_ok-giver.giver cell) (contribution (called_at k) u marks kind c.args.file c.args.n) c.args.buckets.now c.give.new.buckets
    (ap (λ (o : Option ℕ). both_of kind o cell) (c.in_ok-giver.ensures ∙ ap (λ (i : ℕ). giver u marks i c.args.file c.args.n) c.number_of.ensures)) c.in_ok-give.ensures

pub returns : goal.returns
returns c =
    let u = unit_in c.args.p.now in
    let marks = marks_in c.args.p.now in
    let k = c.args.known.now in
    let kind = number_of c.args.kind in
    fills_as (length (functions u)) (handed_in k) (number kind u) None (contribution (called_at k) u marks kind c.args.file c.args.n) c.args.buckets.now c.args.buckets.now
    (none_given kind (giver u marks kind c.args.file c.args.n) (called_at k (place c.args.file c.args.n)) c.is_called.result c.is_called.ensures c.if-is_called.false)
    (fills_none (length (functions u)) (handed_in k) (number kind u) c.args.buckets.now)

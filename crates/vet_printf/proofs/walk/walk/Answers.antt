use Rattle.std.proofs.Common.{◌≡◌, ℕ, length, sym, ap, ◌∙◌, subst, arith}
use Rattle.findings.specs.Passes.{unit_in, marks_in}
use Rattle.own_functions.specs.Functions.{functions, number}
use Rattle.own_functions.proofs.ListLemmas.{size_is}
use Rattle.vet_printf.specs.Handing.{AreBuckets}
use Rattle.vet_printf.specs.Knowing.{handed_in, called_at}
use Rattle.vet_printf.specs.Walk.{walk_files, no_lists}
use Rattle.vet_printf.specs.Wraps.{number_of}
use Rattle.vet_printf.proofs.KnownLemmas.{filled_as}
use Rattle.vet_printf.proofs.walk.walk.Goals as goal

pub loop-file-init : goal.loop-file-init
loop-file-init c =
    let u = unit_in c.args.p.now in
    let k = c.args.known.now in
    let kind = number_of c.args.kind in
    subst (λ (n : ℕ). AreBuckets n no_lists (handed_in k) (number kind u) c.in_ok-buckets.buckets.settled.items c.in_ok-buckets.buckets.parts.items) (size_is u k.list.now c.requires.known.list) (c.in_ok-buckets.ensures (handed_in k) (number kind u))

pub returns : goal.returns
returns c =
    let p = c.args.p.now in
    let u = unit_in p in
    let k = c.args.known.now in
    let kind = number_of c.args.kind in
    let end : c.loop-file.file ≡ length u.trees = omega (arith, c.loop-file-test.false, c.loop-file.auto.file-end) in
    filled_as k u kind (walk_files (called_at k) u (marks_in p) kind c.loop-file.file) (walk_files (called_at k) u (marks_in p) kind (length u.trees)) c.loop-file.buckets
    (ap (λ (n : ℕ). walk_files (called_at k) u (marks_in p) kind n) end) c.loop-file.invariant

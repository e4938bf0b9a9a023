use Rattle.std.proofs.Common.{◌≡◌, ◌+◌, ℕ, List, suc, ap, arith}
use Rattle.findings.specs.Passes.{unit_in, marks_in}
use Rattle.least.specs.Tables.{Member}
use Rattle.vet_printf.specs.Knowing.{called_at}
use Rattle.vet_printf.specs.Walk.{walk_nodes, walk_files}
use Rattle.vet_printf.specs.Wraps.{number_of}
use Rattle.vet_printf.proofs.KnownLemmas.{filled_sized, filled_as}
use Rattle.vet_printf.proofs.walk.walk_to.Goals as goal

pub loop-n-init : goal.loop-n-init
loop-n-init c = c.requires.filled

pub visit-requires-clause-sized : goal.visit-requires-clause-sized
visit-requires-clause-sized c =
    let p = c.args.p.now in
    let k = c.args.known.now in
    let kind = number_of c.args.kind in
    filled_sized k (unit_in p) kind (walk_nodes (called_at k) (unit_in p) (marks_in p) kind (walk_files (called_at k) (unit_in p) (marks_in p) kind c.args.file) c.args.file c.loop-n.n) c.loop-n.buckets c.loop-n.invariant

pub loop-n-preserved : goal.loop-n-preserved
loop-n-preserved c =
    let p = c.args.p.now in
    let k = c.args.known.now in
    let kind = number_of c.args.kind in
    let lists = walk_files (called_at k) (unit_in p) (marks_in p) kind c.args.file in
    let step : suc c.loop-n.n ≡ c.loop-n.n + 1 = omega arith in
    filled_as k (unit_in p) kind (walk_nodes (called_at k) (unit_in p) (marks_in p) kind lists c.args.file (suc c.loop-n.n)) (walk_nodes (called_at k) (unit_in p) (marks_in p) kind lists c.args.file (c.loop-n.n + 1)) c.visit.new.buckets
    (ap (λ (n : ℕ). walk_nodes (called_at k) (unit_in p) (marks_in p) kind lists c.args.file n) step)
    (c.in_ok-visit.ensures (walk_nodes (called_at k) (unit_in p) (marks_in p) kind lists c.args.file c.loop-n.n) c.loop-n.invariant)

pub returns : goal.returns
returns c =
    let p = c.args.p.now in
    let k = c.args.known.now in
    let kind = number_of c.args.kind in
    let lists = walk_files (called_at k) (unit_in p) (marks_in p) kind c.args.file in
    let end : c.loop-n.n ≡ c.args.end = omega (arith, c.loop-n-test.false, c.loop-n.auto.n-end) in
    filled_as k (unit_in p) kind (walk_nodes (called_at k) (unit_in p) (marks_in p) kind lists c.args.file c.loop-n.n) (walk_nodes (called_at k) (unit_in p) (marks_in p) kind lists c.args.file c.args.end) c.loop-n.buckets
    (ap (λ (n : ℕ). walk_nodes (called_at k) (unit_in p) (marks_in p) kind lists c.args.file n) end) c.loop-n.invariant

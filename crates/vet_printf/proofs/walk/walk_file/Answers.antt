use Rattle.std.proofs.Common.{◌≡◌, ◌+◌, ℕ, List, Bool, suc, length, sym, ap, ◌∙◌, subst, arith}
use Rattle.findings.specs.Passes.{unit_in, marks_in}
use Rattle.unit_read.specs.Units.{nodes_at}
use Rattle.vet_printf.specs.Forwards.{AreTouched}
use Rattle.vet_printf.specs.Knowing.{called_at}
use Rattle.vet_printf.specs.Walk.{walk_nodes, walk_files}
use Rattle.vet_printf.specs.Wraps.{number_of}
use Rattle.vet_printf.proofs.KnownLemmas.{filled_as}
use Rattle.vet_printf.proofs.walk.walk_file.Goals as goal

pub walk_to-requires-clause-row : goal.walk_to-requires-clause-row
walk_to-requires-clause-row c =
    let u = unit_in c.args.p.now in
    subst (λ (l : List Bool). AreTouched u c.args.file (length (nodes_at u c.args.file)) (nodes_at u c.args.file) l) (sym c.deref.ensures.value) c.in_ok-row.ensures

pub returns : goal.returns
returns c =
    let p = c.args.p.now in
    let u = unit_in p in
    let k = c.args.known.now in
    let kind = number_of c.args.kind in
    let lists = walk_files (called_at k) u (marks_in p) kind c.args.file in
    let step : suc c.args.file ≡ c.args.file + 1 = omega arith in
    filled_as k u kind (walk_nodes (called_at k) u (marks_in p) kind lists c.args.file c.node_count.result) (walk_files (called_at k) u (marks_in p) kind (c.args.file + 1)) c.walk_to.new.buckets
    (ap (λ (n : ℕ). walk_nodes (called_at k) u (marks_in p) kind lists c.args.file n) c.node_count.ensures.count ∙ ap (λ (n : ℕ). walk_files (called_at k) u (marks_in p) kind n) step) c.in_ok-walk_to.ensures

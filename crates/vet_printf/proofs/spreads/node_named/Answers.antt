use Rattle.std.proofs.Common.{List, slice_get, sym, ap, ◌∙◌}
use Rattle.go_tree.specs.declared.tree.Node.{Node}
use Rattle.unit_read.specs.Units.{nodes_at}
use Rattle.findings.specs.Passes.{unit_in, marks_in}
use Rattle.member_names.specs.InCode.{found_named}
use Rattle.member_names.proofs.NamedLemmas.{what_some, what_nothing}
use Rattle.vet_printf.specs.Handing.{IsSpreadCall}
use Rattle.vet_printf.proofs.spreads.node_named.Goals as goal

pub returns-in_ok-named-in-Some : goal.returns-in_ok-named-in-Some
returns-in_ok-named-in-Some c =
    let u = unit_in c.args.p.now in
    what_some (slice_get (nodes_at u c.args.file) c.args.n) (IsSpreadCall u (marks_in c.args.p.now) c.args.file) c.in-Some.call.now (found_named c.in_ok-named-in-Some.named)
    (ap (λ (l : List Node). slice_get l c.args.n) (sym c.nodes_at.ensures) ∙ sym c.in-Some.ensures) c.in_ok-named-in-Some.ensures

pub returns-in-None : goal.returns-in-None
returns-in-None c =
    let u = unit_in c.args.p.now in
    what_nothing (slice_get (nodes_at u c.args.file) c.args.n) (IsSpreadCall u (marks_in c.args.p.now) c.args.file) (ap (λ (l : List Node). slice_get l c.args.n) (sym c.nodes_at.ensures) ∙ sym c.in-None.ensures)

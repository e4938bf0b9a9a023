use Rattle.std.proofs.Common.{List, ℕ, sym, subst}
use Rattle.findings.specs.Passes.{unit_in}
use Rattle.vet_flow.specs.Unreachable.{AreDeadFlags}
use Rattle.vet_flow.proofs.DeadLemmas.{tree_dead, no_tree}
use Rattle.vet_flow.proofs.dead.file_row.Goals as goal

pub returns-in_ok-row-in-Some : goal.returns-in_ok-row-in-Some
returns-in_ok-row-in-Some c =
    let u = unit_in c.args.p.now in
    tree_dead u c.args.file c.in-Some.tree.now c.in_ok-row-in-Some.row.items (sym c.in-Some.ensures) (subst (λ (b : List ℕ). AreDeadFlags b c.in-Some.tree.now c.in_ok-row-in-Some.row.items) c.text_in.ensures c.in_ok-row-in-Some.ensures)

pub returns-in_ok-row-in-None : goal.returns-in_ok-row-in-None
returns-in_ok-row-in-None c = no_tree (unit_in c.args.p.now) c.args.file c.in_ok-row-in-None.row.items (sym c.in-None.ensures)

use Rattle.std.proofs.Common.{List, sym, ap, ◌∙◌}
use Rattle.findings.specs.Passes.{unit_in, marks_in}
use Rattle.go_tree.specs.declared.tree.Node.{Node}
use Rattle.vet_never.specs.Callees.{callee_of}
use Rattle.vet_never.specs.InCode.{callee_in}
use Rattle.vet_never.proofs.CalleeLemmas.{node_called, nothing_called}
use Rattle.vet_never.proofs.callees.told_of.Goals as goal

pub returns-in_ok-told-in-Some : goal.returns-in_ok-told-in-Some
returns-in_ok-told-in-Some c =
    node_called (unit_in c.args.p.now) (marks_in c.args.p.now) c.args.file c.args.n c.in-Some.callee (callee_in c.in_ok-told-in-Some.told) (ap (λ (l : List Node). callee_of l c.args.n) (sym c.nodes_at.ensures) ∙ (sym c.callee_of.ensures ∙ c.in-Some.is)) c.in_ok-told-in-Some.ensures

pub returns-in-None : goal.returns-in-None
returns-in-None c = nothing_called (unit_in c.args.p.now) (marks_in c.args.p.now) c.args.file c.args.n (ap (λ (l : List Node). callee_of l c.args.n) (sym c.nodes_at.ensures) ∙ (sym c.callee_of.ensures ∙ c.in-None.is))

use Rattle.std.proofs.Common.{List, length, ◌≤◌, ◌^◌, subst, sym}
use Rattle.go_tree.specs.declared.tree.Node.{Node}
use Rattle.findings.specs.Passes.{unit_in}
use Rattle.findings.proofs.ReportLemmas.{all_small}
use Rattle.findings.proofs.running.nodes_in.Goals as goal

pub returns-clause-small : goal.returns-clause-small
returns-clause-small c = subst (λ (l : List Node). length l ≤ 2 ^ 32) (sym c.nodes_at.ensures) (all_small (unit_in c.args.pass.now) c.args.file c.requires.small)

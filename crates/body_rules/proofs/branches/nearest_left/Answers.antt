use Rattle.node_values.specs.Flagged.{IsOnly}
use Rattle.std.proofs.Common.{Option, ℕ, sym, ◌∙◌, subst}
use Rattle.body_rules.specs.Branches.{LeavesNearest}
use Rattle.body_rules.proofs.BranchLemmas.{nearest_some}
use Rattle.body_rules.proofs.branches.nearest_left.Goals as goal

pub returns-in-Some : goal.returns-in-Some
returns-in-Some c =
    subst (λ (o : Option ℕ). IsOnly (LeavesNearest c.args.which c.args.nodes.now c.args.n) o) (sym c.if_leavable.ensures)
    (nearest_some c.args.which c.args.nodes.now c.args.nearest.now c.args.n c.in-Some.t c.requires.tree c.requires.node c.requires.nearest (sym c.number_at.ensures ∙ c.in-Some.is))

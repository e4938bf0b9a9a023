use Rattle.std.proofs.Common.{ℕ, List, Option, sym, subst}
use Rattle.body_rules.specs.declared.branches.Branch.{Branch}
use Rattle.body_rules.specs.declared.branches.Branch.TheVariants as w
use Rattle.body_rules.specs.Jumping.{AreNearest}
use Rattle.body_rules.proofs.rules.nearest.Goals as goal

pub returns-in-Break : goal.returns-in-Break
returns-in-Break c =
    let nodes = c.args.v.now.file.now.nodes.now in
    subst (λ (which : Branch). AreNearest which nodes c.deref.result.now) (sym c.in-Break.is)
    (subst (λ (found : List (Option ℕ)). AreNearest w.Break nodes found) (sym c.deref.ensures.value) c.requires.breaks)

pub returns-in-Continue : goal.returns-in-Continue
returns-in-Continue c =
    let nodes = c.args.v.now.file.now.nodes.now in
    subst (λ (which : Branch). AreNearest which nodes c.deref-in-Continue.result.now) (sym c.in-Continue.is)
    (subst (λ (found : List (Option ℕ)). AreNearest w.Continue nodes found) (sym c.deref-in-Continue.ensures.value) c.requires.continues)

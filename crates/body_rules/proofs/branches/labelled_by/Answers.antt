use Rattle.node_values.specs.Flagged.{IsOnly}
use Rattle.std.proofs.Common.{Option, ℕ, sym, ap, ◌∙◌, subst}
use Rattle.body_rules.specs.Branches.{IsLabelOn, stand_of}
use Rattle.body_rules.proofs.BranchLemmas.{stand_only}
use Rattle.body_rules.proofs.branches.labelled_by.Goals as goal

pub returns : goal.returns
returns c =
    subst (λ (o : Option ℕ). IsOnly (IsLabelOn c.args.nodes.now c.args.l) o)
    (sym (c.stand_of.ensures ∙ ap (λ q. stand_of c.args.nodes.now q c.args.l) c.place_at.ensures))
    (stand_only c.args.nodes.now c.args.parents.now c.args.l c.requires.tree c.requires.parents)

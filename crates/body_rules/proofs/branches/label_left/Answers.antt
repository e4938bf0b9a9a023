use Rattle.body_rules.specs.Branches.{IsLabelOn}
use Rattle.body_rules.proofs.BranchLemmas.{label_some, label_none, split_some, split_none}
use Rattle.body_rules.proofs.branches.label_left.Goals as goal

pub returns-in-Some : goal.returns-in-Some
returns-in-Some c =
    let only = split_some (IsLabelOn c.args.nodes.now c.args.l) c.labelled_by.result c.in-Some.t c.in-Some.is c.labelled_by.ensures in
    label_some c.args.which c.args.nodes.now c.args.l c.in-Some.t c.args.n c.if_round.result only.0 only.1 c.if_round.ensures

pub returns-in-None : goal.returns-in-None
returns-in-None c =
    label_none c.args.which c.args.nodes.now c.args.l c.args.n (split_none (IsLabelOn c.args.nodes.now c.args.l) c.labelled_by.result c.in-None.is c.labelled_by.ensures)

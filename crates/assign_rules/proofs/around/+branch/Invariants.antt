use Rattle.assign_rules.proofs.around.+branch.Given as goal

abbrev pub decreases-branch : goal.decreases-branch
decreases-branch l = l.most

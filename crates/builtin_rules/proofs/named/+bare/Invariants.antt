use Rattle.builtin_rules.proofs.named.+bare.Given as goal

abbrev pub decreases-bare : goal.decreases-bare
decreases-bare l = l.most

use Rattle.vet_printf.proofs.standing.+above_from.Given as goal

abbrev pub decreases-above_from : goal.decreases-above_from
decreases-above_from l = l.most

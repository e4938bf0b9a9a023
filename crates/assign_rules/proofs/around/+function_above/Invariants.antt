use Rattle.assign_rules.proofs.around.+function_above.Given as goal

abbrev pub decreases-function_above : goal.decreases-function_above
decreases-function_above l = l.most

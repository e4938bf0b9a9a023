use Rattle.primary_rules.proofs.arrows.+has_arrow.Given as goal

abbrev pub decreases-has_arrow : goal.decreases-has_arrow
decreases-has_arrow l = l.most

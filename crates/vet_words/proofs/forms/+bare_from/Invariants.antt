use Rattle.vet_words.proofs.forms.+bare_from.Given as goal

abbrev pub decreases-bare_from : goal.decreases-bare_from
decreases-bare_from l = l.most

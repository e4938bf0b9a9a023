use Rattle.known_callees.proofs.NeverLemmas.{AdmitLaws}
use Rattle.tree_facts.proofs.NeverTree.{names_each, names_set, some_set}
use Rattle.tree_facts.proofs.laws.facts_are_those_of_the_tree.Goals as goal

pub returns-clause-each : goal.returns-clause-each
returns-clause-each c tree p pack face text formed at good has =
    let laws : AdmitLaws = record { grows = c.admission_is_monotone.ensures; local = c.admission_is_local.ensures } in
    names_each laws c.one_admission.ensures tree formed p pack face text at good has

pub returns-clause-set : goal.returns-clause-set
returns-clause-set c tree N p pack face text formed are at good has =
    let laws : AdmitLaws = record { grows = c.admission_is_monotone.ensures; local = c.admission_is_local.ensures } in
    names_set laws c.one_admission.ensures tree formed N are p pack face text at good has

pub returns-clause-exists : goal.returns-clause-exists
returns-clause-exists c tree all formed are =
    let laws : AdmitLaws = record { grows = c.admission_is_monotone.ensures; local = c.admission_is_local.ensures } in
    some_set laws c.one_admission.ensures tree formed all are

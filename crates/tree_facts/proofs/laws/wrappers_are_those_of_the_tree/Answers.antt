use Rattle.tree_facts.proofs.PrintTree.{names_each, names_set, some_sets}
use Rattle.tree_facts.proofs.laws.wrappers_are_those_of_the_tree.Goals as goal

pub returns-clause-each : goal.returns-clause-each
returns-clause-each c tree p pack face text formed at good has = names_each tree formed p pack face text at good has

pub returns-clause-set : goal.returns-clause-set
returns-clause-set c tree sets p pack face text formed are at good has = names_set tree formed sets are p pack face text at good has

pub returns-clause-exists : goal.returns-clause-exists
returns-clause-exists c tree all formed are = some_sets tree formed all are

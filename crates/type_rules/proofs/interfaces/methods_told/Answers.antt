use Rattle.type_model.specs.Tables.{count}
use Rattle.method_sets.proofs.Shows.{methods_over}
use Rattle.rule_words.specs.Scenes.{type_in}
use Rattle.type_rules.proofs.MethodLemmas.{methods_shown}
use Rattle.type_rules.proofs.interfaces.methods_told.Goals as goal

pub returns-in-Interface-clause-is : goal.returns-in-Interface-clause-is
returns-in-Interface-clause-is c =
    methods_shown c.args.s.now (type_in c.args.s.now c.args.of) c.term.result.now c.in-Interface.methods c.as_slice.result.now c.term.ensures.is c.in-Interface.is c.as_slice.ensures

pub returns-in-Interface-clause-below : goal.returns-in-Interface-clause-below
returns-in-Interface-clause-below c =
    methods_over c.args.of.0 (count c.args.s.now.table) c.term.result.now c.in-Interface.methods c.as_slice.result.now c.term.ensures.over c.requires.within c.in-Interface.is c.as_slice.ensures

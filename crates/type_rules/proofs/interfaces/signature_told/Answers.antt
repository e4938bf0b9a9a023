use Rattle.type_model.specs.Tables.{count}
use Rattle.rule_words.specs.Scenes.{type_in}
use Rattle.type_rules.proofs.MethodLemmas.{signature_shown, signature_over}
use Rattle.type_rules.proofs.interfaces.signature_told.Goals as goal

pub returns-in-Func-clause-is : goal.returns-in-Func-clause-is
returns-in-Func-clause-is c = signature_shown c.args.s.now (type_in c.args.s.now c.args.of) c.term.result.now c.in-Func.signature c.term.ensures.is c.in-Func.is

pub returns-in-Func-clause-below : goal.returns-in-Func-clause-below
returns-in-Func-clause-below c =
    signature_over c.args.of.0 (count c.args.s.now.table) c.term.result.now c.in-Func.signature c.term.ensures.over c.requires.within c.in-Func.is

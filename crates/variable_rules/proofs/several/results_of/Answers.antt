use Rattle.std.proofs.Common.{sym}
use Rattle.rule_words.specs.Scenes.{type_in}
use Rattle.variable_rules.proofs.ResultLemmas.{results_shown}
use Rattle.variable_rules.proofs.several.results_of.Goals as goal

pub returns-in-Func-clause-is : goal.returns-in-Func-clause-is
returns-in-Func-clause-is c = results_shown c.args.s.now (type_in c.args.s.now c.args.of) c.term.result.now c.in-Func.signature c.as_slice.result.now c.term.ensures.is c.in-Func.is c.as_slice.ensures

use Rattle.rule_words.specs.Scenes.{type_in}
use Rattle.type_rules.proofs.PartLemmas.{taken_shown, taken_over}
use Rattle.type_rules.proofs.signatures.params_told.Goals as goal

pub returns-in_ok-t-in-Func-clause-is : goal.returns-in_ok-t-in-Func-clause-is
returns-in_ok-t-in-Func-clause-is c =
    taken_shown c.args.s.now (type_in c.args.s.now c.args.of) c.term.result.now c.in-Func.signature c.in_ok-t-in-Func.t c.term.ensures.is c.in-Func.is
    c.in_ok-t-in-Func.ensures.types c.in_ok-t-in-Func.ensures.variadic

pub returns-in_ok-t-in-Func-clause-over : goal.returns-in_ok-t-in-Func-clause-over
returns-in_ok-t-in-Func-clause-over c =
    taken_over c.args.s.now c.args.of.0 c.term.result.now c.in-Func.signature c.in_ok-t-in-Func.t c.term.ensures.over c.requires.within c.in-Func.is
    c.in_ok-t-in-Func.ensures.types

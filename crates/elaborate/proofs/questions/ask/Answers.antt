use Rattle.std.proofs.Common.{sym, subst}
use Rattle.type_model.specs.GoTypes.{MethodsBelow}
use Rattle.type_model.specs.Tables.{count}
use Rattle.rule_words.specs.Steps.{IsAskedOf}
use Rattle.elaborate.proofs.questions.ask.Goals as goal

pub is_assignable-requires-in-AssignableBy-clause-methods : goal.is_assignable-requires-in-AssignableBy-clause-methods
is_assignable-requires-in-AssignableBy-clause-methods c =
    let s = c.args.s.now in
    let over = subst (IsAskedOf s) c.in-AssignableBy.is c.requires.asked in
    subst (MethodsBelow (count s.table)) (sym c.deref.ensures.value) over.1

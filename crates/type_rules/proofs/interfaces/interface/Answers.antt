use Rattle.std.proofs.Common.{List, sym, subst}
use Rattle.type_model.specs.declared.term.Method.{Method}
use Rattle.type_model.specs.GoTypes.{MethodsBelow}
use Rattle.type_model.specs.Orders.{AreInOrder}
use Rattle.type_model.specs.Tables.{count}
use Rattle.rule_words.specs.declared.step.Step.{Step}
use Rattle.rule_words.specs.Steps.{IsStepOf}
use Rattle.type_rules.proofs.interfaces.interface.Goals as goal

pub returns-clause-over : goal.returns-clause-over
returns-clause-over c =
    let s = c.args.s.now in
    let below = subst (λ (l : List Method). MethodsBelow (count s.table) l) (sym c.new.ensures) c.in_ok-methods.ensures.below in
    let ordered = subst (λ (l : List Method). AreInOrder l) (sym c.new.ensures) c.in_ok-methods.ensures.ordered in
    subst (λ (x : Step). IsStepOf s x) (sym c.gives_type.ensures) (below, ordered)

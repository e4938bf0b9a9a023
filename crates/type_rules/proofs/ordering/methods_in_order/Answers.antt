use Rattle.std.proofs.Common.{List, map, sym, ap, ◌∙◌, subst}
use Rattle.std.specs.Map.{values_of}
use Rattle.type_model.specs.declared.term.Method.{Method}
use Rattle.type_model.specs.GoTypes.{MethodsBelow}
use Rattle.type_model.specs.Orders.{AreInOrder}
use Rattle.type_model.specs.Parts.{GoMethod}
use Rattle.type_model.specs.Tables.{count}
use Rattle.type_rules.specs.Elements.{method_in}
use Rattle.type_rules.specs.Interfaces.{Named}
use Rattle.type_rules.proofs.OrderLemmas.{listed_seen, listed_below, listed_in_order}
use Rattle.type_rules.proofs.ordering.methods_in_order.Goals as goal

pub returns-clause-are : goal.returns-clause-are
returns-clause-are c =
    let s = c.args.s.now in
    ap (λ (l : List Method). map (method_in s) l) c.in_ok-list.ensures.are
    ∙ (listed_seen s c.in_ok-names.names.entries ∙ ap (λ (l : List (Named × GoMethod)). values_of l) c.in_ok-names.ensures.is)

pub returns-clause-below : goal.returns-clause-below
returns-clause-below c =
    let s = c.args.s.now in
    subst (λ (l : List Method). MethodsBelow (count s.table) l) (sym c.in_ok-list.ensures.are) (listed_below s c.in_ok-names.names.entries c.in_ok-names.ensures.entries)

pub returns-clause-ordered : goal.returns-clause-ordered
returns-clause-ordered c =
    let s = c.args.s.now in
    subst (λ (l : List Method). AreInOrder l) (sym c.in_ok-list.ensures.are) (listed_in_order s c.in_ok-names.names.entries c.listed.ensures.ordered c.in_ok-names.ensures.entries)

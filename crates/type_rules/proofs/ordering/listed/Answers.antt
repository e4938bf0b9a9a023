use Rattle.std.proofs.Common.{◌++◌, List, [], ◌∷◌, append_assoc, sym, ap, ◌∙◌}
use Rattle.type_model.specs.declared.term.Method.{Method}
use Rattle.type_rules.specs.Elements.{Entry, listed_methods}
use Rattle.type_rules.proofs.ListLemmas.{nil_last}
use Rattle.type_rules.proofs.ordering.listed.Goals as goal

pub loop-name-preserved : goal.loop-name-preserved
loop-name-preserved c =
    let rest = listed_methods c.next.new.self in
    let before = c.loop-name.out.items in
    ap (λ (l : List Method). l ++ rest) c.in_ok-push_copy.ensures
    ∙ (append_assoc before (c.in-Some.method.now.now ∷ []) rest
    ∙ (ap (λ (l : List Entry). before ++ listed_methods l) (sym c.in-Some.ensures.steps) ∙ c.loop-name.invariant))

pub returns-clause-are : goal.returns-clause-are
returns-clause-are c =
    let before = c.loop-name.out.items in
    sym (nil_last before) ∙ (ap (λ (l : List Entry). before ++ listed_methods l) (sym c.in-None.ensures.steps.0) ∙ c.loop-name.invariant)

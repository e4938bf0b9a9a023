use Rattle.std.proofs.Common.{List, map, ap, ◌∙◌}
use Rattle.type_model.specs.declared.term.Method.{Method}
use Rattle.type_model.specs.Parts.{GoMethod}
use Rattle.rule_words.specs.Putting.{methods_from}
use Rattle.type_rules.specs.Elements.{method_in}
use Rattle.type_rules.specs.Interfaces.{in_order}
use Rattle.type_rules.proofs.MethodLemmas.{methods_from_all}
use Rattle.type_rules.proofs.interfaces.method_row.Goals as goal

pub returns-clause-are : goal.returns-clause-are
returns-clause-are c =
    let s = c.args.s.now in
    methods_from_all s c.in_ok-list.list.items
    ∙ ap methods_from (c.in_ok-list.ensures.are ∙ (ap (λ (l : List Method). in_order (map (method_in s) l)) c.deref.ensures.value ∙ ap (λ (l : List GoMethod). in_order l) c.in_ok-all.ensures.are))

use Rattle.std.proofs.Common.{List, sym, subst}
use Rattle.type_model.specs.declared.term.Method.{Method}
use Rattle.type_model.specs.GoTypes.{SignatureBelow, MethodsBelow}
use Rattle.type_model.specs.Tables.{count}
use Rattle.type_rules.proofs.MethodLemmas.{all_more}
use Rattle.type_rules.proofs.interfaces.add_method.Goals as goal

pub returns-clause-below : goal.returns-clause-below
returns-clause-below c =
    let n = count c.args.s.now.table in
    subst (λ (l : List Method). MethodsBelow n l) (sym c.in_ok-push.ensures.items)
    (all_more (λ (m : Method). SignatureBelow n m.of) c.args.out.now.items c.args.m c.requires.below c.requires.of)

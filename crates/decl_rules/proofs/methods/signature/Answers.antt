use Rattle.std.proofs.Common.{map, sym}
use Rattle.typed_marks.specs.declared.item.Stage.TheVariants as st
use Rattle.unit_read.specs.Subjects.{unit_of}
use Rattle.rule_words.specs.Asking.{mark_ask}
use Rattle.rule_words.specs.Scenes.{sight, said}
use Rattle.type_rules.specs.Elements.{method_in}
use Rattle.decl_rules.specs.Methods.{receiver_ask}
use Rattle.decl_rules.proofs.GiveLemmas.{gives_bind}
use Rattle.decl_rules.proofs.methods.signature.Goals as goal

pub returns-in_ok-waits-in-Is-clause-gives : goal.returns-in_ok-waits-in-Is-clause-gives
returns-in_ok-waits-in-Is-clause-gives c =
    let s = c.args.s.now in
    let u = unit_of c.args.u.now in
    gives_bind (sight s) (mark_ask u st.Placed c.args.at.file c.args.at.node) (λ m. receiver_ask u c.args.at c.args.node.now c.args.name.now m) (said s c.in-Is.m) (map (method_in s) c.args.out.now.items) _
    c.in_ok-waits-in-Is.waits (sym c.in-Is.ensures.is) c.in_ok-waits-in-Is.ensures.gives

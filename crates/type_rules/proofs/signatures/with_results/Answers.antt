use Rattle.std.proofs.Common.{sym, ap, ◌∙◌}
use Rattle.go_tree.specs.declared.tree.NodeKind.{NodeKind}
use Rattle.mark_walk.specs.Telling.{Says, tell}
use Rattle.mark_walk.proofs.TellLaws.{told_bind}
use Rattle.package_objects.specs.Declares.{kind_at}
use Rattle.typed_marks.specs.declared.item.Stage.TheVariants as st
use Rattle.unit_read.specs.Subjects.{unit_of}
use Rattle.rule_words.specs.Asking.{mark_ask}
use Rattle.rule_words.specs.Scenes.{sight, said}
use Rattle.type_rules.specs.Signatures.{resulting_rule}
use Rattle.type_rules.specs.Taken.{taken_in}
use Rattle.type_rules.proofs.signatures.with_results.Goals as goal

pub returns-in_ok-step-in-Is-clause-is : goal.returns-in_ok-step-in-Is-clause-is
returns-in_ok-step-in-Is-clause-is c =
    let s = c.args.s.now in
    let u = unit_of c.args.u.now in
    let ps = taken_in s c.args.t in
    c.in_ok-step-in-Is.ensures.is
    ∙ (ap (λ (kind : NodeKind). tell (sight s) (resulting_rule kind ps (said s c.in-Is.m))) c.kind_of.ensures
    ∙ sym (told_bind (sight s) (mark_ask u st.Placed c.args.block c.args.n) (λ m. resulting_rule (kind_at c.args.nodes.now c.args.n) ps m) (Says (said s c.in-Is.m)) (sym c.in-Is.ensures.is)))

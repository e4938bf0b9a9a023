use Rattle.std.proofs.Common.{sym, ◌∙◌}
use Rattle.mark_walk.specs.Telling.{Says}
use Rattle.mark_walk.proofs.TellLaws.{told_bind}
use Rattle.typed_marks.specs.declared.item.Stage.TheVariants as st
use Rattle.unit_read.specs.Subjects.{unit_of}
use Rattle.rule_words.specs.Asking.{mark_ask}
use Rattle.rule_words.specs.Scenes.{sight, said}
use Rattle.type_rules.specs.Signatures.{from_params}
use Rattle.type_rules.proofs.signatures.params_asked.Goals as goal

pub returns-in_ok-step-in-Is-clause-is : goal.returns-in_ok-step-in-Is-clause-is
returns-in_ok-step-in-Is-clause-is c =
    let s = c.args.s.now in
    let u = unit_of c.args.u.now in
    c.in_ok-step-in-Is.ensures.is
    ∙ sym (told_bind (sight s) (mark_ask u st.Placed c.args.block c.args.n) (λ m. from_params u c.args.block c.args.nodes.now c.args.node m) (Says (said s c.in-Is.m)) (sym c.in-Is.ensures.is))

use Rattle.typed_marks.specs.declared.item.Stage.TheVariants as st
use Rattle.unit_read.specs.Subjects.{unit_of}
use Rattle.rule_words.specs.Asking.{mark_ask}
use Rattle.rule_words.specs.Scenes.{sight, told_by, said}
use Rattle.assign_rules.specs.Sending.{sent_by}
use Rattle.rule_words.proofs.BindLaws.{says_bind}
use Rattle.assign_rules.proofs.sending.sent_wants.Goals as goal

pub returns-in-Is-clause-is : goal.returns-in-Is-clause-is
returns-in-Is-clause-is c =
    let s = c.args.s.now in
    let u = unit_of c.args.u.now in
    says_bind (sight s) (mark_ask u st.Placed c.args.block c.args.c) (sent_by u c.args.block c.args.n) (said s c.in-Is.m) (told_by (said s) c.sent_by.result) c.in-Is.ensures.is c.sent_by.ensures.is

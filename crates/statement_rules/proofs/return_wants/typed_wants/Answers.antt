use Rattle.typed_marks.specs.declared.item.Stage.TheVariants as st
use Rattle.unit_read.specs.Subjects.{unit_of}
use Rattle.rule_words.specs.Asking.{mark_ask}
use Rattle.rule_words.specs.Scenes.{sight, told_by, said}
use Rattle.rule_words.proofs.BindLaws.{says_bind}
use Rattle.statement_rules.specs.Returning.{told_wants}
use Rattle.statement_rules.proofs.return_wants.typed_wants.Goals as goal

pub returns-in-Is-clause-is : goal.returns-in-Is-clause-is
returns-in-Is-clause-is c =
    let s = c.args.s.now in
    let u = unit_of c.args.u.now in
    says_bind (sight s) (mark_ask u st.Judged c.args.block c.args.f) (told_wants u c.args.block c.args.nodes.now c.args.around.now c.args.i c.args.n) (said s c.in-Is.m) (told_by (said s) c.told_wants.result)
    c.in-Is.ensures.is c.told_wants.ensures.is

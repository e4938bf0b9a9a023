use Rattle.std.proofs.Common.{sym, ◌∙◌}
use Rattle.mark_walk.specs.Telling.{Says}
use Rattle.mark_walk.proofs.TellLaws.{told_bind}
use Rattle.typed_marks.specs.declared.item.Stage.TheVariants as st
use Rattle.unit_read.specs.Subjects.{unit_of}
use Rattle.rule_words.specs.Asking.{mark_ask}
use Rattle.rule_words.specs.Scenes.{sight, said}
use Rattle.decl_rules.specs.Under.{written_rule}
use Rattle.decl_rules.proofs.under.placed.Goals as goal

pub returns-in_ok-declaring-in-Is-clause-is : goal.returns-in_ok-declaring-in-Is-clause-is
returns-in_ok-declaring-in-Is-clause-is c =
    let s = c.args.s.now in
    let u = unit_of c.args.u.now in
    c.in_ok-declaring-in-Is.ensures.is
    ∙ sym (told_bind (sight s) (mark_ask u st.Placed c.args.name.file c.args.n) (λ m. written_rule u c.args.name m) (Says (said s c.in-Is.m)) (sym c.in-Is.ensures.is))

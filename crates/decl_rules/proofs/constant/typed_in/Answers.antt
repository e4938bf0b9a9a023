use Rattle.std.proofs.Common.{sym, ◌∙◌}
use Rattle.mark_walk.specs.Telling.{Says, Waits}
use Rattle.mark_walk.proofs.TellLaws.{told_bind}
use Rattle.typed_marks.specs.declared.item.Stage.TheVariants as st
use Rattle.unit_read.specs.Subjects.{unit_of}
use Rattle.rule_words.specs.declared.read.How.TheVariants as h
use Rattle.rule_words.specs.Asking.{part_ask}
use Rattle.rule_words.specs.Parts.{read_as}
use Rattle.rule_words.specs.Scenes.{sight, part_in}
use Rattle.decl_rules.specs.Objects.{with_typing}
use Rattle.decl_rules.proofs.constant.typed_in.Goals as goal

pub returns-in-Is-clause-is : goal.returns-in-Is-clause-is
returns-in-Is-clause-is c =
    let s = c.args.s.now in
    let u = unit_of c.args.u.now in
    c.with_typing.ensures.is
    ∙ sym (told_bind (sight s) (part_ask u st.Placed c.args.file (read_as h.TypeAndUnder c.args.t)) (with_typing u c.args.block c.args.value) (Says (part_in s c.in-Is.p)) (sym c.in-Is.ensures.is))

pub returns-in-Wait-clause-is : goal.returns-in-Wait-clause-is
returns-in-Wait-clause-is c =
    let s = c.args.s.now in
    let u = unit_of c.args.u.now in
    sym (told_bind (sight s) (part_ask u st.Placed c.args.file (read_as h.TypeAndUnder c.args.t)) (with_typing u c.args.block c.args.value) (Waits c.in-Wait.item) (sym c.in-Wait.ensures.is))

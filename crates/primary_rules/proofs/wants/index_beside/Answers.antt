use Rattle.std.proofs.Common.{sym, ap, ◌∙◌, option_map}
use Rattle.mark_walk.specs.Telling.{Says, Waits}
use Rattle.mark_walk.proofs.TellLaws.{told_bind}
use Rattle.unit_read.specs.Subjects.{unit_of}
use Rattle.rule_words.specs.Asking.{mark_under}
use Rattle.rule_words.specs.Scenes.{sight, said, type_in}
use Rattle.primary_rules.specs.Wants.{index_wanted}
use Rattle.primary_rules.proofs.wants.index_beside.Goals as goal

pub returns-in-Is-clause-is : goal.returns-in-Is-clause-is
returns-in-Is-clause-is c =
    let s = c.args.s.now in
    let u = unit_of c.args.u.now in
    c.index_wanted.ensures.is
    ∙ sym (told_bind (sight s) (mark_under u (said s c.args.own)) index_wanted (Says (option_map (type_in s) c.in-Is.under)) (sym c.in-Is.ensures.is))

pub returns-in-Wait-clause-is : goal.returns-in-Wait-clause-is
returns-in-Wait-clause-is c =
    let s = c.args.s.now in
    let u = unit_of c.args.u.now in
    sym (told_bind (sight s) (mark_under u (said s c.args.own)) index_wanted (Waits c.in-Wait.item) (sym c.in-Wait.ensures.is))

use Rattle.std.proofs.Common.{sym, ap, ◌∙◌}
use Rattle.mark_walk.specs.Telling.{Says, tell}
use Rattle.mark_walk.proofs.TellLaws.{told_bind}
use Rattle.unit_read.specs.Subjects.{unit_of}
use Rattle.rule_words.specs.Parts.{stage_of}
use Rattle.rule_words.specs.Asking.{mark_ask, marked_part}
use Rattle.rule_words.specs.Scenes.{sight, told_by, said}
use Rattle.rule_words.proofs.reading.part.Goals as goal

pub returns-in-Is-clause-is : goal.returns-in-Is-clause-is
returns-in-Is-clause-is c =
    let s = c.args.s.now in
    let u = unit_of c.args.u.now in
    let how = c.args.read.how in
    let n = c.args.read.node in
    let told = ap (λ stage. tell (sight s) (mark_ask u stage c.args.block n)) (sym c.stage_of.ensures) ∙ sym c.look.ensures.is ∙ ap (told_by (said s)) c.in-Is.is in
    c.marked.ensures.is ∙ sym (told_bind (sight s) (mark_ask u (stage_of how c.args.stage) c.args.block n) (λ m. marked_part u how m) (Says (said s c.in-Is.m)) told)

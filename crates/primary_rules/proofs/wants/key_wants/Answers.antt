use Rattle.std.proofs.Common.{ℕ, Option, sym, ap, ◌∙◌}
use Rattle.mark_walk.specs.Telling.{Says, Waits, tell}
use Rattle.mark_walk.proofs.TellLaws.{told_bind}
use Rattle.package_objects.specs.Declares.{part}
use Rattle.unit_read.specs.Subjects.{unit_of}
use Rattle.rule_words.specs.Scenes.{sight, said}
use Rattle.primary_rules.specs.Wants.{before_part, index_beside}
use Rattle.primary_rules.proofs.wants.key_wants.Goals as goal

pub returns-in-Is-clause-is : goal.returns-in-Is-clause-is
returns-in-Is-clause-is c =
    let s = c.args.s.now in
    let u = unit_of c.args.u.now in
    c.index_beside.ensures.is
    ∙ sym (told_bind (sight s) (before_part u c.args.block (part c.args.around.now 0)) (index_beside u) (Says (said s c.in-Is.own))
    (ap (λ (p : Option ℕ). tell (sight s) (before_part u c.args.block p)) (sym c.part_of.ensures) ∙ sym c.in-Is.ensures.is))

pub returns-in-Wait-clause-is : goal.returns-in-Wait-clause-is
returns-in-Wait-clause-is c =
    let s = c.args.s.now in
    let u = unit_of c.args.u.now in
    sym (told_bind (sight s) (before_part u c.args.block (part c.args.around.now 0)) (index_beside u) (Waits c.in-Wait.item)
    (ap (λ (p : Option ℕ). tell (sight s) (before_part u c.args.block p)) (sym c.part_of.ensures) ∙ sym c.in-Wait.ensures.is))

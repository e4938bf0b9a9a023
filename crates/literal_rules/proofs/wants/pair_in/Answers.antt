use Rattle.std.proofs.Common.{ℕ, ◌≡◌, Bool, sym, ap, ◌∙◌}
use Rattle.rule_words.specs.Scenes.{sight}
use Rattle.object_order.specs.Spots.{place}
use Rattle.package_objects.specs.Declares.{kind_at}
use Rattle.mark_walk.specs.Telling.{Says, Waits, tell}
use Rattle.mark_walk.proofs.TellLaws.{told_bind}
use Rattle.unit_read.specs.Subjects.{unit_of}
use Rattle.literal_rules.specs.Forms.{is_braces}
use Rattle.literal_rules.specs.Shapes.{braces_ask}
use Rattle.literal_rules.specs.Wants.{by_shape, element_wanted, nth_field, nodes_in, pair_wanted}
use Rattle.literal_rules.specs.InCode.{may_be_literal}
use Rattle.literal_rules.proofs.wants.pair_in.Goals as goal
use Rattle.rule_words.specs.Files.{file_of}

pub returns-in-Is-clause-is : goal.returns-in-Is-clause-is
returns-in-Is-clause-is c =
    let s = c.args.s.now in
    let u = unit_of c.args.u.now in
    let l = may_be_literal s c.in-Is.l in
    c.pair_told.ensures.is
    ∙ sym (told_bind (sight s) (braces_ask u c.args.block (place (file_of u c.args.block) c.args.outer.around)) (by_shape (pair_wanted u c.args.block c.args.p c.args.around.now c.args.outer.slot)) (Says l)
    (sym (c.in-Is.ensures.is ∙ ap (λ (f : ℕ). tell (sight s) (braces_ask u c.args.block (place f c.args.outer.around))) c.file_of.ensures)))

pub returns-in-Wait-clause-is : goal.returns-in-Wait-clause-is
returns-in-Wait-clause-is c =
    let s = c.args.s.now in
    let u = unit_of c.args.u.now in
    sym (told_bind (sight s) (braces_ask u c.args.block (place (file_of u c.args.block) c.args.outer.around)) (by_shape (pair_wanted u c.args.block c.args.p c.args.around.now c.args.outer.slot)) (Waits c.in-Wait.item)
    (sym (c.in-Wait.ensures.is ∙ ap (λ (f : ℕ). tell (sight s) (braces_ask u c.args.block (place f c.args.outer.around))) c.file_of.ensures)))

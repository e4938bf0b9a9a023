use Rattle.std.proofs.Common.{ℕ, ◌≡◌, Bool, sym, ap, ◌∙◌}
use Rattle.rule_words.specs.Scenes.{sight}
use Rattle.object_order.specs.Spots.{place}
use Rattle.package_objects.specs.Declares.{kind_at}
use Rattle.mark_walk.specs.Telling.{Says, Waits, tell}
use Rattle.mark_walk.proofs.TellLaws.{told_bind}
use Rattle.unit_read.specs.Subjects.{unit_of}
use Rattle.literal_rules.specs.Forms.{is_braces}
use Rattle.literal_rules.specs.Shapes.{braces_ask}
use Rattle.literal_rules.specs.Wants.{by_shape, element_wanted, nth_field, nodes_in, pair_wanted}
use Rattle.literal_rules.specs.InCode.{may_be_literal}
use Rattle.literal_rules.proofs.wants.plain_want.Goals as goal
use Rattle.rule_words.specs.Files.{file_of}

pub returns-in-Is-clause-is : goal.returns-in-Is-clause-is
returns-in-Is-clause-is c =
    let s = c.args.s.now in
    let u = unit_of c.args.u.now in
    let l = may_be_literal s c.in-Is.l in
    c.plain_told.ensures.is
    ∙ (ap (λ (b : Bool). tell (sight s) (by_shape (element_wanted b (nth_field c.args.p.slot)) l)) c.is_braces_at.ensures
    ∙ sym (told_bind (sight s) (braces_ask u c.args.block (place (file_of u c.args.block) c.args.p.around))
    (by_shape (element_wanted (is_braces (kind_at (nodes_in u c.args.block) c.args.n)) (nth_field c.args.p.slot))) (Says l)
    (sym (c.in-Is.ensures.is ∙ ap (λ (f : ℕ). tell (sight s) (braces_ask u c.args.block (place f c.args.p.around))) c.file_of.ensures))))

pub returns-in-Wait-clause-is : goal.returns-in-Wait-clause-is
returns-in-Wait-clause-is c =
    let s = c.args.s.now in
    let u = unit_of c.args.u.now in
    sym (told_bind (sight s) (braces_ask u c.args.block (place (file_of u c.args.block) c.args.p.around))
    (by_shape (element_wanted (is_braces (kind_at (nodes_in u c.args.block) c.args.n)) (nth_field c.args.p.slot))) (Waits c.in-Wait.item)
    (sym (c.in-Wait.ensures.is ∙ ap (λ (f : ℕ). tell (sight s) (braces_ask u c.args.block (place f c.args.p.around))) c.file_of.ensures)))

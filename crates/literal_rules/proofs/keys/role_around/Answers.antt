use Rattle.std.proofs.Common.{List, Option, option_map, sym, ap, ◌∙◌, rules}
use Rattle.object_order.specs.Spots.{place}
use Rattle.mark_walk.specs.Telling.{Says}
use Rattle.mark_walk.proofs.TellLaws.{told_bind}
use Rattle.typed_marks.specs.declared.mark.Mark.{Mark}
use Rattle.unit_read.specs.Subjects.{unit_of}
use Rattle.unit_read.specs.Units.{nodes_at}
use Rattle.rule_words.specs.Scenes.{sight, type_in}
use Rattle.literal_rules.specs.Items.{keys_ask}
use Rattle.literal_rules.specs.Keys.{role_told}
use Rattle.literal_rules.specs.Rules.{literal_told, row_mark, row_by, map_mark, map_by}
use Rattle.literal_rules.specs.Shapes.{braces_ask}
use Rattle.literal_rules.specs.InCode.{keys_in, may_be_literal}
use Rattle.rule_words.proofs.BindLaws.{waits_at}
use Rattle.literal_rules.proofs.keys.role_around.Goals as goal

pub returns-in-Is : goal.returns-in-Is
returns-in-Is c =
    let s = c.args.s.now in
    let u = unit_of c.args.u.now in
    c.role_told.ensures
    ∙ sym (told_bind (sight s) (braces_ask u c.args.block (place c.args.file c.args.outer.around)) role_told (Says (may_be_literal s c.in-Is.l)) (sym c.in-Is.ensures.is))

pub returns-in-Wait : goal.returns-in-Wait
returns-in-Wait c = search (rules, waits_at, c.in-Wait.ensures)

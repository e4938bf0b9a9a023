use Rattle.std.proofs.Common.{option_map, sym, ◌∙◌}
use Rattle.mark_walk.specs.Telling.{Says, Waits}
use Rattle.mark_walk.proofs.TellLaws.{told_bind}
use Rattle.unit_read.specs.Subjects.{unit_of}
use Rattle.rule_words.specs.Asking.{under_ask}
use Rattle.rule_words.specs.Scenes.{sight, type_in}
use Rattle.decl_rules.specs.Objects.{beside_fields}
use Rattle.decl_rules.proofs.method_names.of_owner.Goals as goal

pub returns-in-Is-clause-is : goal.returns-in-Is-clause-is
returns-in-Is-clause-is c =
    let s = c.args.s.now in
    c.beside_fields.ensures.is
    ∙ sym (told_bind (sight s) (under_ask (unit_of c.args.u.now) (type_in s c.args.x.of)) (λ under. beside_fields (unit_of c.args.u.now) c.args.name c.args.at under) (Says (option_map (type_in s) c.in-Is.under)) (sym c.in-Is.ensures.is))

pub returns-in-Wait-clause-is : goal.returns-in-Wait-clause-is
returns-in-Wait-clause-is c =
    let s = c.args.s.now in
    sym (told_bind (sight s) (under_ask (unit_of c.args.u.now) (type_in s c.args.x.of)) (λ under. beside_fields (unit_of c.args.u.now) c.args.name c.args.at under) (Waits c.in-Wait.item) (sym c.in-Wait.ensures.is))

use Rattle.std.proofs.Common.{option_map, sym, ◌∙◌, rules}
use Rattle.mark_walk.specs.Telling.{Says}
use Rattle.mark_walk.proofs.TellLaws.{told_bind}
use Rattle.unit_read.specs.Subjects.{unit_of}
use Rattle.rule_words.specs.Asking.{under_ask}
use Rattle.rule_words.specs.Scenes.{sight, type_in, parts_in}
use Rattle.type_rules.specs.Receivers.{with_base}
use Rattle.rule_words.proofs.BindLaws.{waits_at}
use Rattle.type_rules.proofs.receivers.base_asked.Goals as goal

pub returns-in_ok-step-in-Is-clause-is : goal.returns-in_ok-step-in-Is-clause-is
returns-in_ok-step-in-Is-clause-is c =
    let s = c.args.s.now in
    c.in_ok-step-in-Is.ensures.is
    ∙ sym (told_bind (sight s) (under_ask (unit_of c.args.u.now) (type_in s c.args.of)) (λ under. with_base c.args.nodes.now c.args.node.now (parts_in s c.args.parts.now) under)
    (Says (option_map (type_in s) c.in-Is.under)) (sym c.in-Is.ensures.is))

pub returns-in-Wait-clause-is : goal.returns-in-Wait-clause-is
returns-in-Wait-clause-is c = search (rules, waits_at, c.in-Wait.ensures.is)

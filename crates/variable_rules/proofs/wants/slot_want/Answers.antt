use Rattle.std.proofs.Common.{ap, ◌∙◌}
use Rattle.rule_words.specs.Scenes.{sight}
use Rattle.mark_walk.specs.Telling.{tell}
use Rattle.typed_tree.specs.declared.place.Want.{Want}
use Rattle.unit_read.specs.Subjects.{unit_of}
use Rattle.variable_rules.specs.Wants.{value_want}
use Rattle.variable_rules.proofs.wants.slot_want.Goals as goal

pub returns-clause-is : goal.returns-clause-is
returns-clause-is c =
    c.value_want.ensures.is ∙ ap (λ (d : Want). tell (sight c.args.s.now) (value_want (unit_of c.args.u.now) c.args.block c.args.around.now d)) c.demand_in.ensures

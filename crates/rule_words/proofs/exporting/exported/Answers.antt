use Rattle.std.proofs.Common.{◌∙◌}
use Rattle.type_model.specs.Tables.{terms_in}
use Rattle.rule_words.proofs.SceneLemmas.{uses_stay, uses_grow, faces_seen}
use Rattle.rule_words.proofs.exporting.exported.Goals as goal

pub returns-clause-is : goal.returns-clause-is
returns-clause-is c =
    uses_stay c.args.u.now.env.now.types.now (terms_in c.args.s.now.table) c.requires.env _ c.exported_of.ensures.within ∙ c.exported_of.ensures.is

pub returns-clause-within : goal.returns-clause-within
returns-clause-within c = uses_grow c.args.u.now.env.now.types.now (terms_in c.args.s.now.table) c.requires.env _ c.exported_of.ensures.within

pub returns-clause-seen : goal.returns-clause-seen
returns-clause-seen c = faces_seen c.args.u.now c.args.s.now c.requires

use Rattle.std.proofs.Common.{ap, ◌∙◌}
use Rattle.rule_words.specs.Scenes.{parts_in}
use Rattle.type_rules.specs.Signatures.{is_good}
use Rattle.type_rules.proofs.PartLemmas.{good_on}
use Rattle.type_rules.proofs.params.are_good.Goals as goal

pub loop-i-preserved : goal.loop-i-preserved
loop-i-preserved c = good_on (parts_in c.args.s.now c.args.parts.now) c.loop-i.i _ _ _ c.loop-i.invariant (c.is_good.ensures ∙ ap is_good c.part_at.ensures.is) c.both-good.ensures

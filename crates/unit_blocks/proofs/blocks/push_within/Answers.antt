use Rattle.std.proofs.Common.{sym, ◌∙◌}
use Rattle.std.proofs.lemmas.Bool.{ltb-true}
use Rattle.unit_blocks.proofs.BlockLemmas.{adds_past, adds_one}
use Rattle.unit_blocks.proofs.blocks.push_within.Goals as goal

pub push_at-requires : goal.push_at-requires
push_at-requires c = ltb-true c.args.n _ (sym c.is_below.ensures ∙ c.if-is_below.true)

pub returns-in_ok-push_at : goal.returns-in_ok-push_at
returns-in_ok-push_at c = adds_one c.args.groups.now.items c.push_at.new.groups.items c.args.n c.args.at c.in_ok-push_at.ensures

pub returns-else-is_below : goal.returns-else-is_below
returns-else-is_below c = adds_past c.args.groups.now.items c.args.n c.args.at (sym c.is_below.ensures ∙ c.if-is_below.false)

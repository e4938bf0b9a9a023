use Rattle.object_order.specs.Views.{world_of}
use Rattle.package_needs.specs.Keys.{up, flagged}
use Rattle.package_needs.proofs.LiteralLemmas.{mentions_key, mentions_denoted}
use Rattle.package_needs.proofs.keys.mention_at.Goals as goal

pub returns-then-is_key : goal.returns-then-is_key
returns-then-is_key c = mentions_key (world_of c.args.view.now) (flagged c.args.elsewhere.now.items) (up c.args.view.now.trees.now) c.args.at c.is_key.result c.is_key.ensures c.if-is_key.true

pub returns : goal.returns
returns c = mentions_denoted (world_of c.args.view.now) (flagged c.args.elsewhere.now.items) (up c.args.view.now.trees.now) c.args.at c.is_key.result c.denoted_at.result c.is_key.ensures c.if-is_key.false c.denoted_at.ensures

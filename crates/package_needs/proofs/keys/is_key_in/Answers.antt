use Rattle.object_order.specs.Views.{world_of}
use Rattle.package_needs.specs.Keys.{up, flagged}
use Rattle.package_needs.proofs.LiteralLemmas.{key_element}
use Rattle.package_needs.proofs.keys.is_key_in.Goals as goal

pub returns : goal.returns
returns c = key_element (world_of c.args.view.now) (flagged c.args.elsewhere.now.items) (up c.args.view.now.trees.now) c.args.at c.args.inside c.requires.holds c.if-inside.false

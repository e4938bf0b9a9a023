use Rattle.std.proofs.Common.{sym, ◌∙◌}
use Rattle.object_order.specs.Views.{world_of}
use Rattle.package_needs.specs.Keys.{up, flagged}
use Rattle.package_needs.proofs.LiteralLemmas.{key_unheld}
use Rattle.package_needs.proofs.keys.is_key.Goals as goal

pub returns-in-None : goal.returns-in-None
returns-in-None c = key_unheld (world_of c.args.view.now) (flagged c.args.elsewhere.now.items) (up c.args.view.now.trees.now) c.args.at (sym c.held_at.ensures ∙ c.in-None.is)

use Rattle.std.proofs.Common.{sym, ◌∙◌}
use Rattle.object_order.specs.Views.{world_of}
use Rattle.package_needs.specs.Keys.{up}
use Rattle.package_needs.proofs.LiteralLemmas.{literal_unheld}
use Rattle.package_needs.proofs.keys.literal_bare.Goals as goal

pub returns-in-None : goal.returns-in-None
returns-in-None c = literal_unheld (world_of c.args.view.now) (up c.args.view.now.trees.now) c.args.at c.requires.bare (sym c.in-None.is ∙ c.held_at.ensures)

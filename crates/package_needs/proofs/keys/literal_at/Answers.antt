use Rattle.std.proofs.Common.{sym, ◌∙◌}
use Rattle.object_order.specs.Views.{world_of}
use Rattle.package_needs.specs.Keys.{up}
use Rattle.package_needs.proofs.LiteralLemmas.{literal_written}
use Rattle.package_needs.proofs.keys.literal_at.Goals as goal

pub returns-in-Some : goal.returns-in-Some
returns-in-Some c = literal_written (world_of c.args.view.now) (up c.args.view.now.trees.now) c.args.at c.in-Some.of (sym c.in-Some.is ∙ c.written_at.ensures)

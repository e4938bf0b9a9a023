use Rattle.std.proofs.Common.{sym, ◌∙◌}
use Rattle.object_order.specs.Views.{world_of}
use Rattle.package_needs.specs.Keys.{up}
use Rattle.package_needs.proofs.LiteralLemmas.{literal_inner, literal_unknown, held_known}
use Rattle.package_needs.proofs.keys.literal_held.Goals as goal

pub returns-in-Some : goal.returns-in-Some
returns-in-Some c = literal_inner (world_of c.args.view.now) (up c.args.view.now.trees.now) c.args.at c.in-Some.of c.args.inside _ c.inner_type.result c.requires.bare c.requires.holds
    (held_known (world_of c.args.view.now) c.args.view.now.trees.now c.args.at c.args.inside c.args.types.now.items c.requires.holds c.requires.known) (sym c.cell_at.ensures ∙ c.in-Some.is) c.inner_type.ensures

pub returns-in-None : goal.returns-in-None
returns-in-None c = literal_unknown (world_of c.args.view.now) (up c.args.view.now.trees.now) c.args.at c.args.inside _ c.requires.bare c.requires.holds
    (held_known (world_of c.args.view.now) c.args.view.now.trees.now c.args.at c.args.inside c.args.types.now.items c.requires.holds c.requires.known) (sym c.cell_at.ensures ∙ c.in-None.is)

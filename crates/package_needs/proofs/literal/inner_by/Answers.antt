use Rattle.std.proofs.Common.{sym, ◌∙◌}
use Rattle.object_order.specs.Views.{world_of}
use Rattle.package_needs.proofs.LiteralLemmas.{inner_some, inner_none}
use Rattle.package_needs.proofs.literal.inner_by.Goals as goal

pub returns-in-Some : goal.returns-in-Some
returns-in-Some c = inner_some (world_of c.args.view.now) c.args.key c.args.of c.args.end c.in-Some.part c.elided_by.result c.end_of-last.result c.requires.ends
    (sym c.in-Some.is ∙ c.inner_at.ensures) c.end_of-last.ensures c.elided_by.ensures

pub returns-in-None : goal.returns-in-None
returns-in-None c = inner_none (world_of c.args.view.now) c.args.key c.args.of c.args.end c.requires.ends (sym c.in-None.is ∙ c.inner_at.ensures)

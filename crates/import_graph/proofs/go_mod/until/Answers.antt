use Rattle.std.proofs.Common.{◌∙◌, ap, sym, arith}
use Rattle.import_graph.specs.Modules.{stops}
use Rattle.import_graph.proofs.ModuleLemmas.{until-on}
use Rattle.import_graph.proofs.go_mod.until.Goals as goal

pub loop-at-preserved : goal.loop-at-preserved
loop-at-preserved c = (
  omega (arith, c.loop-at-test.true),
  until-on c.args.stop c.args.bytes.now c.loop-at.at c.loop-at-test.true (ap (stops c.args.stop) (sym c.behind.ensures) ∙ sym c.stops.ensures ∙ c.if-stops.false) c.loop-at.invariant.1,
)

use Rattle.fact_codec.proofs.TableLemmas.{held-not_absent}
use Rattle.fact_codec.proofs.table.FactTable.gap.Goals as goal

pub unreachable-requires : goal.unreachable-requires
unreachable-requires g c = held-not_absent c.args.self.now c.args.name.now c.in-Ok.field-0 c.in-Ok.ensures c.requires

use Rattle.fact_codec.proofs.TableLemmas.{inserted, inserted-in_order}
use Rattle.fact_codec.proofs.table.FactTable.put.Goals as goal

pub invariant_of-self-2 : goal.invariant_of-self-2
invariant_of-self-2 g c = inserted-in_order c.args.self.now c.self.inside.entries.items _ c.gap-at.result c.in_ok-name.name c.args.name.now c.args.fact c.self.view_is c.self.invariant c.in_ok-name.ensures c.in_ok-insert.ensures.items c.gap-at.ensures

pub returns-clause-put : goal.returns-clause-put
returns-clause-put g c = inserted c.args.self.now c.self.inside.entries.items _ c.gap-at.result c.in_ok-name.name c.args.name.now c.args.fact c.self.view_is c.in_ok-name.ensures c.in_ok-insert.ensures.items c.gap-at.ensures

use Rattle.std.proofs.Common.{sym}
use Rattle.fact_codec.proofs.TableLemmas.{found-there, fact-gap}
use Rattle.fact_codec.proofs.table.FactTable.get.Goals as goal

pub returns-in-Ok : goal.returns-in-Ok
returns-in-Ok g c = found-there c.args.self.now c.self.inside.entries.items c.in-Ok.at c.args.name.now c.index.result.now c.self.view_is c.index.ensures c.in-Ok.ensures

pub returns-in-Err : goal.returns-in-Err
returns-in-Err g c = sym (fact-gap c.args.self.now c.args.name.now c.in-Err.field-0 c.in-Err.ensures)

use Rattle.std.proofs.Common.{arith, refl}
use Rattle.package_needs.proofs.NotedLemmas.{notes_in, notes_none}
use Rattle.package_needs.proofs.denoted.note_in.Goals as goal

pub returns-then-node-end : goal.returns-then-node-end
returns-then-node-end c = notes_in c.args.row.now.items _ c.args.node c.args.name c.set_cell.ensures

pub returns-else-node-end : goal.returns-else-node-end
returns-else-node-end c = notes_none c.args.row.now.items _ c.args.node c.args.name (let e = c.width-end.ensures in let t = c.if-node-end.false in omega arith) refl

use Rattle.std.proofs.Common.{arith}
use Rattle.type_model.specs.Tables.{count}
use Rattle.lock_types.proofs.PartLemmas.{no_rows, all_rows}
use Rattle.lock_types.proofs.parts.part_graph.Goals as goal

pub loop-n-init : goal.loop-n-init
loop-n-init c = no_rows c.args.t.now c.in_ok-graph.graph c.in_ok-graph.ensures

pub returns : goal.returns
returns c = all_rows c.args.t.now c.loop-n.n (count c.args.t.now) c.loop-n.graph (omega (arith, c.loop-n-test.false, c.loop-n.auto.n-end, c.count_types-n-end.ensures)) c.loop-n.invariant

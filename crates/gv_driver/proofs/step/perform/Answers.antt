use Rattle.std.proofs.Common.{rules, ◌≡◌}
use Rattle.gv_driver.specs.Tallies.{tally}
use Rattle.gv_driver.proofs.PerformLaws.{breaks-begun, meets-circle, pack-at, performs-made, right-made}
use Rattle.gv_driver.proofs.ReachLaws.{own-row}
use Rattle.gv_driver.proofs.step.perform.Goals as goal

pub done_of-requires-clause-size : goal.done_of-requires-clause-size
done_of-requires-clause-size g c = c.requires.may.table_is.size

pub returns-in_err-node-clause-begun : goal.returns-in_err-node-clause-begun
returns-in_err-node-clause-begun g c =
    let tree = c.args.tree.now in
    let table = c.args.table.now in
    let m = c.requires.may in
    let pack = c.index-tree-at.result in
    let at = pack-at tree table c.args.at pack m.ready c.index-tree-at.is in
    let count = tally (g.K.Kit.loads c.args.kit.now) (g.K.Kit.runs c.args.kit.now) in
    let now = tally (g.K.Kit.loads c.done_of.new.kit) (g.K.Kit.runs c.done_of.new.kit) in
    let h = breaks-begun tree c.args.only c.args.cache.now table c.args.at pack m.tree_is m.table_is m.rows m.ready at count now c.in_err-node.ensures.begun in
    search (rules, h)

pub returns-in_err-node-clause-circle : goal.returns-in_err-node-clause-circle
returns-in_err-node-clause-circle g c = λ e.
    let tree = c.args.tree.now in
    let table = c.args.table.now in
    let m = c.requires.may in
    let pack = c.index-tree-at.result in
    let at = pack-at tree table c.args.at pack m.ready c.index-tree-at.is in
    meets-circle tree c.args.only c.args.cache.now table c.args.at pack m.tree_is m.table_is m.rows m.ready at (search (rules, e))

pub returns-clause-performs : goal.returns-clause-performs
returns-clause-performs g c =
    let tree = c.args.tree.now in
    let table = c.args.table.now in
    let m = c.requires.may in
    let pack = c.index-tree-at.result in
    let at = pack-at tree table c.args.at pack m.ready c.index-tree-at.is in
    let count = tally (g.K.Kit.loads c.args.kit.now) (g.K.Kit.runs c.args.kit.now) in
    let now = tally (g.K.Kit.loads c.done_of.new.kit) (g.K.Kit.runs c.done_of.new.kit) in
    performs-made tree c.args.only c.args.cache.now table c.args.at pack m.tree_is m.table_is m.rows m.ready at c.in_ok-node.node count now c.in_ok-node.ensures.made c.in_ok-node.ensures.takes

pub returns-clause-row : goal.returns-clause-row
returns-clause-row g c =
    let tree = c.args.tree.now in
    let before = c.args.cache.now in
    let table = c.args.table.now in
    let m = c.requires.may in
    let pack = c.index-tree-at.result in
    let at = pack-at tree table c.args.at pack m.ready c.index-tree-at.is in
    let n = c.in_ok-node.node in
    own-row tree before table c.args.at pack n m.tree_is m.table_is m.rows at m.ready
    (right-made tree c.args.only before table c.args.at pack m.tree_is m.table_is m.rows m.ready at n c.in_ok-node.ensures.made) c.in_ok-node.ensures.row

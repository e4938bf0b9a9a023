use Rattle.std.proofs.Common.{◌∙◌, ℕ, get_or, set, refl, ap, arith}
use Rattle.flow.proofs.AroundLemmas.{read_at, given_more}
use Rattle.flow.proofs.around.give.Goals as goal

pub put-requires : goal.put-requires
put-requires c =
    let x : ℕ = get_or c.as_slice-parts.result.now c.loop-i.i 0 in
    let there = read_at c.args.node.now.parts c.as_slice-parts.result.now c.loop-i.i x 0 c.as_slice-parts.ensures c.loop-i-test.true refl in
    let lower = c.requires.tree.after c.args.p c.loop-i.i x (c.args.node.now, c.requires.node, there) in
    let size = c.loop-i.invariant.size in
    let whole = c.requires.size in
    let low = c.requires.p in
    omega arith

pub loop-i-preserved : goal.loop-i-preserved
loop-i-preserved c =
    let x : ℕ = get_or c.as_slice-parts.result.now c.loop-i.i 0 in
    let there = read_at c.args.node.now.parts c.as_slice-parts.result.now c.loop-i.i x 0 c.as_slice-parts.ensures c.loop-i-test.true refl in
    let lower = c.requires.tree.after c.args.p c.loop-i.i x (c.args.node.now, c.requires.node, there) in
    let size = c.loop-i.invariant.size in
    let whole = c.requires.size in
    let low = c.requires.p in
    given_more c.args.tree.now c.args.p c.args.node.now c.args.around c.loop-i.i x c.args.table.now.items c.loop-i.table.items c.put.new.table.items
    c.loop-i.invariant there (omega arith) (c.put.ensures ∙ ap (set c.loop-i.table.items x) c.inside.ensures)

use Rattle.std.proofs.Common.{◌≡◌, ◌<◌, ◌∙◌, ◌&&◌, true, false, refl, ap, sym, arith, length, drop, ◌+◌}
use Rattle.go_tree.specs.Spelling.{same_list}
use Rattle.go_tree.proofs.Spelled.{same_step, same_end, same_length}
use Rattle.go_tree.proofs.spelling.same_list.Goals as goal

pub returns-then-xs-ys : goal.returns-then-xs-ys
returns-then-xs-ys c = sym (same_length c.args.source.now c.args.xs.now c.args.ys.now c.if-xs-ys.true)

pub returns-then-not-same_token : goal.returns-then-not-same_token
returns-then-not-same_token c =
    let l : c.loop-i.i < length c.args.ys.now = (let e = c.if-xs-ys.false in omega (arith, e)) in
    sym (c.loop-i.invariant ∙ same_step c.args.source.now c.args.xs.now c.args.ys.now c.loop-i.i _ false (omega arith) l c.if-not-same_token.ensures)

pub loop-i-preserved : goal.loop-i-preserved
loop-i-preserved c =
    let l : c.loop-i.i < length c.args.ys.now = (let e = c.if-xs-ys.false in omega (arith, e)) in
    c.loop-i.invariant ∙ same_step c.args.source.now c.args.xs.now c.args.ys.now c.loop-i.i _ true (omega arith) l c.if-not-same_token.ensures

pub returns : goal.returns
returns c =
    sym (c.loop-i.invariant ∙ same_end c.args.source.now c.args.xs.now c.args.ys.now c.loop-i.i (omega arith) (let e = c.if-xs-ys.false in omega (arith, e)))

use Rattle.std.proofs.Common.{length, arith}
use Rattle.label_uses.specs.declared.answer.Jump.{Jump}
use Rattle.label_uses.specs.Labels.{is_jump, IsJump}
use Rattle.label_uses.specs.Parents.{at}
use Rattle.label_uses.specs.Rows.{IsJumpRow, HasName}
use Rattle.label_uses.specs.Tables.{found}
use Rattle.label_uses.proofs.NameLemmas.{headed_within}
use Rattle.label_uses.proofs.RowLemmas.{gathered_none, gathered_more, gathered_past}
use Rattle.label_uses.proofs.rows.jumps_of.Goals as goal

pub loop-n-init : goal.loop-n-init
loop-n-init c =
    let tree = c.args.tree.now in
    let is = IsJump c.args.bytes.now tree in
    gathered_none (λ (j : Jump). j.name) (IsJumpRow is (at c.args.functions.now) (found c.args.table.now)) (λ n. HasName (is n)) c.args.heads.now.low c.new-jumps.result.items c.new-jumps.ensures.items
    (λ n low has. let w = (headed_within is_jump tree.nodes c.args.heads.now n c.requires.tree c.requires.heads has.1.0).0 in absurd (omega arith))

pub push_jump-requires-clause-n : goal.push_jump-requires-clause-n
push_jump-requires-clause-n c = let t = c.loop-n-test.true in let e = c.end_of-end.ensures.least (length c.args.tree.now.nodes) c.requires.heads.begins c.requires.heads.ends in omega arith

pub loop-n-preserved : goal.loop-n-preserved
loop-n-preserved c =
    let is = IsJump c.args.bytes.now c.args.tree.now in
    gathered_more (λ (j : Jump). j.name) (IsJumpRow is (at c.args.functions.now) (found c.args.table.now)) (λ n. HasName (is n)) c.loop-n.n c.loop-n.jumps.items c.push_jump.new.jumps.items c.loop-n.invariant
    c.in_ok-push_jump.ensures

pub returns : goal.returns
returns c =
    let tree = c.args.tree.now in
    let is = IsJump c.args.bytes.now tree in
    gathered_past (λ (j : Jump). j.name) (IsJumpRow is (at c.args.functions.now) (found c.args.table.now)) (λ n. HasName (is n)) c.loop-n.n (length tree.nodes) c.loop-n.jumps.items
    (let stop = c.loop-n.auto.n-end in let low = c.end_of-end.ensures.low in let e = c.end_of-end.ensures.least (length tree.nodes) c.requires.heads.begins c.requires.heads.ends in omega arith)
    (λ n high has. let w = (headed_within is_jump tree.nodes c.args.heads.now n c.requires.tree c.requires.heads has.1.0).1 in let t = c.loop-n-test.false in let h = c.end_of-end.ensures.high in absurd (omega arith))
    c.loop-n.invariant

use Rattle.std.proofs.Common.{length, arith}
use Rattle.label_uses.specs.declared.answer.Label.{Label}
use Rattle.label_uses.specs.Labels.{is_label, IsLabel}
use Rattle.label_uses.specs.Parents.{at}
use Rattle.label_uses.specs.Rows.{IsLabelRow, HasName}
use Rattle.label_uses.specs.Tables.{found}
use Rattle.label_uses.proofs.NameLemmas.{headed_within}
use Rattle.label_uses.proofs.RowLemmas.{gathered_none, gathered_more, gathered_past}
use Rattle.label_uses.proofs.rows.labels_of.Goals as goal

pub loop-n-init : goal.loop-n-init
loop-n-init c =
    let tree = c.args.tree.now in
    let is = IsLabel c.args.bytes.now tree in
    gathered_none (λ (x : Label). x.name) (IsLabelRow is (at c.args.functions.now) (found c.args.table.now) c.args.used.now) (λ n. HasName (is n)) c.args.heads.now.low c.new-labels.result.items c.new-labels.ensures.items
    (λ n low has. let w = (headed_within is_label tree.nodes c.args.heads.now n c.requires.tree c.requires.heads has.1.0).0 in absurd (omega arith))

pub push_label-requires-clause-n : goal.push_label-requires-clause-n
push_label-requires-clause-n c = let t = c.loop-n-test.true in let e = c.end_of-end.ensures.least (length c.args.tree.now.nodes) c.requires.heads.begins c.requires.heads.ends in omega arith

pub loop-n-preserved : goal.loop-n-preserved
loop-n-preserved c =
    let is = IsLabel c.args.bytes.now c.args.tree.now in
    gathered_more (λ (x : Label). x.name) (IsLabelRow is (at c.args.functions.now) (found c.args.table.now) c.args.used.now) (λ n. HasName (is n)) c.loop-n.n c.loop-n.labels.items c.push_label.new.labels.items c.loop-n.invariant
    c.in_ok-push_label.ensures

pub returns : goal.returns
returns c =
    let tree = c.args.tree.now in
    let is = IsLabel c.args.bytes.now tree in
    gathered_past (λ (x : Label). x.name) (IsLabelRow is (at c.args.functions.now) (found c.args.table.now) c.args.used.now) (λ n. HasName (is n)) c.loop-n.n (length tree.nodes) c.loop-n.labels.items
    (let stop = c.loop-n.auto.n-end in let low = c.end_of-end.ensures.low in let e = c.end_of-end.ensures.least (length tree.nodes) c.requires.heads.begins c.requires.heads.ends in omega arith)
    (λ n high has. let w = (headed_within is_label tree.nodes c.args.heads.now n c.requires.tree c.requires.heads has.1.0).1 in let t = c.loop-n-test.false in let h = c.end_of-end.ensures.high in absurd (omega arith))
    c.loop-n.invariant

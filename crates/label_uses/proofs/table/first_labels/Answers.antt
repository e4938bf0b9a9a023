use Rattle.std.proofs.Common.{length, refl, arith}
use Rattle.label_uses.specs.Labels.{is_label, IsLabel}
use Rattle.label_uses.specs.Parents.{at}
use Rattle.label_uses.specs.Tables.{found}
use Rattle.label_uses.proofs.NameLemmas.{headed_within}
use Rattle.label_uses.proofs.TableLemmas.{first_none, first_more, first_past}
use Rattle.label_uses.proofs.table.first_labels.Goals as goal

pub loop-n-init : goal.loop-n-init
loop-n-init c =
    let tree = c.args.tree.now in
    first_none (IsLabel c.args.bytes.now tree) (at c.args.functions.now) c.args.heads.now.low (found c.new-table.result) (λ f q. rw c.new-table.ensures.empty refl)
    (λ e q low has. let w = (headed_within is_label tree.nodes c.args.heads.now e c.requires.tree c.requires.heads has.0).0 in absurd (omega arith))

pub add-requires-clause-n : goal.add-requires-clause-n
add-requires-clause-n c = let t = c.loop-n-test.true in let e = c.end_of-end.ensures.least (length c.args.tree.now.nodes) c.requires.heads.begins c.requires.heads.ends in omega arith

pub loop-n-preserved : goal.loop-n-preserved
loop-n-preserved c =
    first_more (IsLabel c.args.bytes.now c.args.tree.now) (at c.args.functions.now) c.loop-n.n (found c.loop-n.table) (found c.add.new.table) c.loop-n.invariant c.in_ok-add.ensures

pub returns : goal.returns
returns c =
    let tree = c.args.tree.now in
    first_past (IsLabel c.args.bytes.now tree) (at c.args.functions.now) c.loop-n.n (length tree.nodes) (found c.loop-n.table)
    (let stop = c.loop-n.auto.n-end in let low = c.end_of-end.ensures.low in let e = c.end_of-end.ensures.least (length tree.nodes) c.requires.heads.begins c.requires.heads.ends in omega arith)
    (λ e q high has. let w = (headed_within is_label tree.nodes c.args.heads.now e c.requires.tree c.requires.heads has.0).1 in let t = c.loop-n-test.false in let h = c.end_of-end.ensures.high in absurd (omega arith))
    c.loop-n.invariant

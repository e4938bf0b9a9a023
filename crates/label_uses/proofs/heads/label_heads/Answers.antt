use Rattle.std.proofs.Common.{◌≡◌, Option, ℕ, Some, slice_get, sym, ap, ◌∙◌, subst, arith}
use Rattle.std.proofs.lemmas.Option.{slice_get-get_or}
use Rattle.go_tree.specs.declared.tree.Node.{Node}
use Rattle.label_uses.specs.Heads.{IsNoted}
use Rattle.label_uses.specs.Labels.{is_label}
use Rattle.label_uses.proofs.NameLemmas.{none_headed, heads_more, heads_all}
use Rattle.label_uses.proofs.heads.label_heads.Goals as goal

pub loop-p-init : goal.loop-p-init
loop-p-init c = none_headed is_label c.args.nodes.now c.in_ok-heads.heads c.in_ok-heads.ensures.flags c.in_ok-heads.ensures.low c.in_ok-heads.ensures.high

pub loop-p-preserved : goal.loop-p-preserved
loop-p-preserved c =
    let nodes = c.args.nodes.now in
    let node = c.index-nodes-p.result in
    let there : slice_get nodes c.loop-p.p ≡ Some node = slice_get-get_or nodes c.loop-p.p node c.loop-p-test.true ∙ ap (λ (x : Node). Some x) (sym c.index-nodes-p.is) in
    heads_more is_label nodes c.loop-p.p node c.loop-p.heads c.note.new.h there c.loop-p.invariant (subst (λ (o : Option ℕ). IsNoted o c.loop-p.heads c.note.new.h) c.label_in.ensures c.note.ensures)

pub returns : goal.returns
returns c = heads_all is_label c.args.nodes.now c.loop-p.p c.loop-p.heads (let t = c.loop-p-test.false in let e = c.loop-p.auto.p-end in omega arith) c.loop-p.invariant

use Rattle.std.proofs.Common.{◌≡◌, true, false, Some, refl, sym, ap, ◌∙◌, arith}
use Rattle.std.proofs.lemmas.Option.{slice_get-get_or}
use Rattle.go_tree.specs.declared.tree.Node.{Node}
use Rattle.go_tree.proofs.NodeLemmas.{differ, none_more, none_all}
use Rattle.label_uses.specs.Plain.{names_label}
use Rattle.label_uses.proofs.plain.names_some.Goals as goal

pub loop-p-preserved : goal.loop-p-preserved
loop-p-preserved c =
    let nodes = c.args.nodes.now in
    let node = c.index-nodes-p.result in
    none_more names_label nodes c.loop-p.p node (slice_get-get_or nodes c.loop-p.p node c.loop-p-test.true ∙ ap (λ (x : Node). Some x) (sym c.index-nodes-p.is))
    (sym c.names_label.ensures ∙ c.if-names_label.false) c.loop-p.invariant

pub returns-then-names_label : goal.returns-then-names_label
returns-then-names_label c =
    let nodes = c.args.nodes.now in
    let node = c.index-nodes-p.result in (
      λ e. (
        c.loop-p.p,
        (
          node,
          slice_get-get_or nodes c.loop-p.p node c.loop-p-test.true ∙ ap (λ (x : Node). Some x) (sym c.index-nodes-p.is),
          sym c.names_label.ensures ∙ c.if-names_label.true,
        ),
      ),
      λ w. refl,
    )

pub returns : goal.returns
returns c = (
  λ e. absurd (differ false refl e),
  λ w. absurd (none_all names_label c.args.nodes.now c.loop-p.p (let t = c.loop-p-test.false in let e = c.loop-p.auto.p-end in omega arith) c.loop-p.invariant w.0 w.1),
)

use Rattle.std.proofs.Common.{true, false, Some, refl, sym, ap, ◌∙◌, arith}
use Rattle.std.proofs.lemmas.Option.{slice_get-get_or}
use Rattle.go_tree.specs.declared.tree.Node.{Node}
use Rattle.go_tree.proofs.NodeLemmas.{differ, none_more, none_all}
use Rattle.body_rules.specs.Kinds.{is_goto}
use Rattle.body_rules.proofs.view.has_goto.Goals as goal

pub loop-n-preserved : goal.loop-n-preserved
loop-n-preserved c =
    let nodes = c.args.nodes.now in
    let node = c.index-nodes-n.result in
    none_more (λ (x : Node). is_goto x.kind) nodes c.loop-n.n node (slice_get-get_or nodes c.loop-n.n node c.loop-n-test.true ∙ ap (λ (x : Node). Some x) (sym c.index-nodes-n.is)) (ap (λ (x : Node). is_goto x.kind) c.index-nodes-n.is ∙ (sym c.is_goto.ensures ∙ c.if-is_goto.false)) c.loop-n.invariant

pub returns-then-is_goto : goal.returns-then-is_goto
returns-then-is_goto c =
    let nodes = c.args.nodes.now in
    let node = c.index-nodes-n.result in (
      λ e. (
        c.loop-n.n,
        (
          node,
          slice_get-get_or nodes c.loop-n.n node c.loop-n-test.true ∙ ap (λ (x : Node). Some x) (sym c.index-nodes-n.is),
          ap (λ (x : Node). is_goto x.kind) c.index-nodes-n.is ∙ (sym c.is_goto.ensures ∙ c.if-is_goto.true),
        ),
      ),
      λ w. refl,
    )

pub returns : goal.returns
returns c = (
  λ e. absurd (differ false refl e),
  λ w. absurd (none_all (λ (x : Node). is_goto x.kind) c.args.nodes.now c.loop-n.n (let t = c.loop-n-test.false in let e = c.loop-n.auto.n-end in omega arith) c.loop-n.invariant w.0 w.1),
)

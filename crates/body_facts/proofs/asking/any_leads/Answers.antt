use Rattle.std.proofs.Common.{true, false, Some, refl, sym, ap, ◌∙◌, arith}
use Rattle.std.proofs.lemmas.Option.{slice_get-get_or}
use Rattle.go_tree.specs.declared.tree.Node.{Node}
use Rattle.go_tree.proofs.NodeLemmas.{differ, none_more, none_all}
use Rattle.body_facts.specs.Asking.{leads}
use Rattle.body_facts.proofs.asking.any_leads.Goals as goal

pub loop-n-preserved : goal.loop-n-preserved
loop-n-preserved c =
    let nodes = c.args.nodes.now in
    let node = c.index-nodes-n.result in
    none_more (leads nodes) nodes c.loop-n.n node (slice_get-get_or nodes c.loop-n.n node c.loop-n-test.true ∙ ap (λ (x : Node). Some x) (sym c.index-nodes-n.is)) (sym c.leads.ensures ∙ c.if-leads.false) c.loop-n.invariant

pub returns-then-leads : goal.returns-then-leads
returns-then-leads c =
    let nodes = c.args.nodes.now in
    let node = c.index-nodes-n.result in (
      λ e. (c.loop-n.n, (node, slice_get-get_or nodes c.loop-n.n node c.loop-n-test.true ∙ ap (λ (x : Node). Some x) (sym c.index-nodes-n.is), sym c.leads.ensures ∙ c.if-leads.true)),
      λ w. refl,
    )

pub returns : goal.returns
returns c = (
  λ e. absurd (differ false refl e),
  λ w. absurd (none_all (leads c.args.nodes.now) c.args.nodes.now c.loop-n.n (let t = c.loop-n-test.false in let e = c.loop-n.auto.n-end in omega arith) c.loop-n.invariant w.0 w.1),
)

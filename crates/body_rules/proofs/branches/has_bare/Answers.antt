use Rattle.std.proofs.Common.{◌≡◌, true, false, Some, refl, sym, ap, ◌∙◌, arith}
use Rattle.std.proofs.lemmas.Option.{slice_get-get_or}
use Rattle.go_tree.specs.declared.tree.Node.{Node}
use Rattle.go_tree.proofs.NodeLemmas.{differ}
use Rattle.body_rules.proofs.BareLemmas.{none_bare, all_bare, bare_here}
use Rattle.body_rules.proofs.branches.has_bare.Goals as goal

pub loop-n-preserved : goal.loop-n-preserved
loop-n-preserved c =
    let nodes = c.args.nodes.now in
    let node = c.index-nodes-n.result in
    none_bare c.args.which nodes c.loop-n.n node (slice_get-get_or nodes c.loop-n.n node c.loop-n-test.true ∙ ap (λ (x : Node). Some x) (sym c.index-nodes-n.is))
    (sym c.is_bare.ensures ∙ c.if-is_bare.false) c.loop-n.invariant

pub returns-then-is_bare : goal.returns-then-is_bare
returns-then-is_bare c =
    let nodes = c.args.nodes.now in
    let node = c.index-nodes-n.result in (
      λ e. (
        c.loop-n.n,
        bare_here c.args.which nodes c.loop-n.n node (slice_get-get_or nodes c.loop-n.n node c.loop-n-test.true ∙ ap (λ (x : Node). Some x) (sym c.index-nodes-n.is)) (sym c.is_bare.ensures ∙ c.if-is_bare.true),
      ),
      λ w. refl,
    )

pub returns : goal.returns
returns c = (
  λ e. absurd (differ false refl e),
  λ w. absurd (all_bare c.args.which c.args.nodes.now c.loop-n.n (let t = c.loop-n-test.false in let e = c.loop-n.auto.n-end in omega arith) c.loop-n.invariant w.0 w.1),
)

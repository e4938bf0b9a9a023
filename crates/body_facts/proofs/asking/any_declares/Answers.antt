use Rattle.std.proofs.Common.{false, Some, get_or, nat_lt, ◌&&◌, refl, sym, ap, ◌∙◌, ℕ, List, arith}
use Rattle.std.proofs.lemmas.Option.{slice_get-get_or, slice_get_within}
use Rattle.go_tree.specs.declared.tree.Node.{Node}
use Rattle.go_tree.specs.Kinds.{is_function}
use Rattle.go_tree.proofs.NodeLemmas.{differ}
use Rattle.body_facts.specs.Asking.{past_of}
use Rattle.body_facts.proofs.PastLemmas.{past_none, past_more, none_round, some_round}
use Rattle.body_facts.proofs.asking.any_declares.Goals as goal

pub loop-n-init : goal.loop-n-init
loop-n-init c = (past_none c.args.nodes.now, λ f d low. absurd (omega (arith, low)))

pub loop-n-preserved : goal.loop-n-preserved
loop-n-preserved c =
    let nodes = c.args.nodes.now in
    let n = c.loop-n.n in
    let past = c.loop-n.past in
    let node = c.index-nodes-n.result in
    let begin = c.begin_at.result in
    let there = slice_get-get_or nodes n node c.loop-n-test.true ∙ ap (λ (x : Node). Some x) (sym c.index-nodes-n.is) in (
      past_more nodes n past c.past_of-past.result node there (c.past_of-past.ensures ∙ sym (ap (λ (x : Node). past_of x.kind n past) c.index-nodes-n.is)) c.loop-n.invariant.0,
      none_round nodes n past begin node c.requires.tree c.requires.tiled there (c.begin_at.ensures ∙ ap (λ (l : List ℕ). get_or l n 0) c.requires.begins) c.loop-n.invariant.0
          (ap (λ (x : Node). is_function x.kind && nat_lt begin past) c.index-nodes-n.is ∙ (sym c.is_round.ensures ∙ c.if-is_round.false)) c.loop-n.invariant.1,
    )

pub returns-then-is_round : goal.returns-then-is_round
returns-then-is_round c =
    let nodes = c.args.nodes.now in
    let n = c.loop-n.n in
    let past = c.loop-n.past in
    let node = c.index-nodes-n.result in
    let begin = c.begin_at.result in
    let there = slice_get-get_or nodes n node c.loop-n-test.true ∙ ap (λ (x : Node). Some x) (sym c.index-nodes-n.is) in (
      λ e. some_round nodes n past begin node c.requires.tree c.requires.tiled there (c.begin_at.ensures ∙ ap (λ (l : List ℕ). get_or l n 0) c.requires.begins) c.loop-n.invariant.0
          (ap (λ (x : Node). is_function x.kind && nat_lt begin past) c.index-nodes-n.is ∙ (sym c.is_round.ensures ∙ c.if-is_round.true)),
      λ w. refl,
    )

pub returns : goal.returns
returns c = (
  λ e. absurd (differ false refl e),
  λ w. absurd (c.loop-n.invariant.1 w.0 w.1 (let low = slice_get_within c.args.nodes.now w.0 w.2.0.0 w.2.0.1 in let t = c.loop-n-test.false in let e = c.loop-n.auto.n-end in omega (arith, low, t, e)) w.2),
)

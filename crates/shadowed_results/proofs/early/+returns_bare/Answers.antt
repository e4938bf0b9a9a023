use Rattle.std.proofs.Common.{◌≡◌, ◌<◌, ℕ, false, List, length, get_or, refl, sym, ap, ◌∙◌, subst, arith}
use Rattle.std.proofs.lemmas.Option.{slice_get_read}
use Rattle.std.proofs.lemmas.List.Elements.{Contains-get_or}
use Rattle.std.specs.List.{Contains}
use Rattle.go_tree.proofs.NodeLemmas.{differ}
use Rattle.node_values.specs.Trees.{IsPart}
use Rattle.shadowed_results.specs.Early.{ReturnsBare}
use Rattle.shadowed_results.proofs.EarlyLemmas.{bare_here, other_none, bare_part, none_bare_more, none_bare}
use Rattle.shadowed_results.proofs.early.+returns_bare.Goals as goal

pub returns-then-is_bare : goal.returns-then-is_bare
returns-then-is_bare t c =
    let nodes = c.args.nodes.now in
    let node = c.index-nodes-n.result in
    let there = slice_get_read nodes (length nodes) c.args.n node refl c.requires.node c.index-nodes-n.is in
    (λ e. (c.args.n, bare_here nodes c.requires.tree c.args.f c.args.n node there (sym c.is_bare.ensures ∙ c.if-is_bare.true)), λ w. refl)

pub returns-then-is_other : goal.returns-then-is_other
returns-then-is_other t c =
    let nodes = c.args.nodes.now in
    let node = c.index-nodes-n.result in
    let there = slice_get_read nodes (length nodes) c.args.n node refl c.requires.node c.index-nodes-n.is in (
      λ e. absurd (differ false refl e),
      λ w. absurd (other_none nodes c.requires.tree c.args.f c.args.n node there (sym c.is_bare.ensures ∙ c.if-is_bare.false) (sym c.is_other.ensures ∙ c.if-is_other.true) w.0 w.1),
    )

pub returns_bare-requires : goal.returns_bare-requires
returns_bare-requires t c =
    let nodes = c.args.nodes.now in
    let node = c.index-nodes-n.result in
    let parts = c.as_slice-part-items.result.now in
    let there = slice_get_read nodes (length nodes) c.args.n node refl c.requires.node c.index-nodes-n.is in
    let low : get_or parts c.loop-part.part-index 0 < c.args.n = c.requires.tree.after c.args.n (get_or parts c.loop-part.part-index 0)
    (node, there, subst (λ (xs : List ℕ). Contains xs (get_or parts c.loop-part.part-index 0)) c.as_slice-part-items.ensures (Contains-get_or parts c.loop-part.part-index 0 c.loop-part-test.true)) in
    let most = c.decreases in
    let size = c.requires.node in
    (omega arith, (c.requires.tree, omega arith))

pub returns-then-returns_bare : goal.returns-then-returns_bare
returns-then-returns_bare t c =
    let nodes = c.args.nodes.now in
    let node = c.index-nodes-n.result in
    let parts = c.as_slice-part-items.result.now in
    let there = slice_get_read nodes (length nodes) c.args.n node refl c.requires.node c.index-nodes-n.is in
    let has : IsPart nodes c.args.n (get_or parts c.loop-part.part-index 0) =
    (node, there, subst (λ (xs : List ℕ). Contains xs (get_or parts c.loop-part.part-index 0)) c.as_slice-part-items.ensures (Contains-get_or parts c.loop-part.part-index 0 c.loop-part-test.true)) in
    let found = c.returns_bare.ensures.0 c.if-returns_bare.true in (
      λ e. (found.0, bare_part nodes c.requires.tree c.args.f c.args.n (get_or parts c.loop-part.part-index 0) found.0 node there (sym c.is_other.ensures ∙ c.if-is_other.false) has found.1),
      λ w. refl,
    )

pub loop-part-preserved : goal.loop-part-preserved
loop-part-preserved t c =
    none_bare_more c.args.nodes.now c.requires.tree c.args.f c.loop-part.part-index c.as_slice-part-items.result.now
    (λ n r. differ c.returns_bare.result c.if-returns_bare.false (c.returns_bare.ensures.1 (n, r))) c.loop-part.invariant

pub returns : goal.returns
returns t c =
    let nodes = c.args.nodes.now in
    let node = c.index-nodes-n.result in
    let there = slice_get_read nodes (length nodes) c.args.n node refl c.requires.node c.index-nodes-n.is in
    let size : length c.as_slice-part-items.result.now ≡ length node.parts = ap (λ (xs : List ℕ). length xs) c.as_slice-part-items.ensures in
    let past = c.loop-part-test.false in (
      λ e. absurd (differ false refl e),
      λ w. absurd (none_bare nodes c.requires.tree c.args.f c.args.n c.loop-part.part-index node there (sym c.is_bare.ensures ∙ c.if-is_bare.false) (omega arith)
          (subst (λ (xs : List ℕ). (j n : ℕ) → j < c.loop-part.part-index → ReturnsBare nodes c.args.f (get_or xs j 0) n → ⊥) c.as_slice-part-items.ensures c.loop-part.invariant) w.0 w.1),
    )

use Rattle.std.proofs.Common.{false, length, refl, sym, ◌∙◌}
use Rattle.std.proofs.lemmas.Option.{slice_get_read}
use Rattle.go_tree.proofs.NodeLemmas.{differ}
use Rattle.shadowed_results.proofs.EarlyLemmas.{may_shadow, shadow_bare, no_shadow}
use Rattle.shadowed_results.proofs.early.may_shadow.Goals as goal

pub returns-then-is_named : goal.returns-then-is_named
returns-then-is_named c =
    let nodes = c.args.nodes.now in
    let node = c.index-nodes-f.result in
    let there = slice_get_read nodes (length nodes) c.args.f node refl c.requires.node c.index-nodes-f.is in (
      λ e. let found = c.returns_bare.ensures.0 e in (found.0, may_shadow nodes c.requires.tree c.args.f found.0 node there (sym c.is_named.ensures ∙ c.if-is_named.true) found.1),
      λ w. c.returns_bare.ensures.1 (w.0, shadow_bare nodes c.requires.tree c.args.f w.0 w.1),
    )

pub returns : goal.returns
returns c =
    let nodes = c.args.nodes.now in
    let node = c.index-nodes-f.result in
    let there = slice_get_read nodes (length nodes) c.args.f node refl c.requires.node c.index-nodes-f.is in (
      λ e. absurd (differ false refl e),
      λ w. absurd (no_shadow nodes c.requires.tree c.args.f w.0 node there (sym c.is_named.ensures ∙ c.if-is_named.false) w.1),
    )

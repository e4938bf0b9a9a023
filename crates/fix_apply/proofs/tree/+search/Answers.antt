use Rattle.std.proofs.Common.{◌≡◌, ℕ, Option, Some, None, MatchOption, sym, subst}
use Rattle.std.proofs.lemmas.List.{get_or_read}
use Rattle.std.proofs.lemmas.Bool.{false≢true}
use Rattle.fix_apply.specs.Trees.{MayMeet, node_at}
use Rattle.fix_apply.proofs.TreeSearch.{prune, leaf_none, inner_none}
use Rattle.fix_apply.proofs.tree.+search.Goals as goal

pub returns-then-not-may_meet : goal.returns-then-not-may_meet
returns-then-not-may_meet t c =
    let nodes = c.args.nodes.now.items in
    let read : c.index.result.now ≡ node_at nodes c.args.x = get_or_read nodes c.args.x _ c.requires.within c.index.ensures _ in
    prune c.args.slots.now nodes c.args.x c.args.file c.args.start c.args.end c.requires.tree c.requires.some (λ may. false≢true (c.if-not-may_meet.ensures.1 (subst (λ n. MayMeet n c.args.file c.args.start c.args.end) (sym read) may)))

pub returns-else-meets : goal.returns-else-meets
returns-else-meets t c =
    leaf_none c.args.slots.now c.args.nodes.now.items c.args.x c.args.file c.args.start c.args.end c.if-x-slots.true (λ meets. false≢true (c.if-meets.ensures.1 meets))

at_node : (r : Option ℕ) (P Q : Type 0) (R : ℕ → Type 0) → (P → Q) → MatchOption r P R → MatchOption r Q R
at_node None P Q R f m = f m
at_node (Some p) P Q R f m = m

pub returns : goal.returns
returns t c = at_node c.search-2.result _ _ _ (inner_none c.args.slots.now c.args.nodes.now.items c.args.x c.args.file c.args.start c.args.end c.if-x-slots.false c.in_default.ensures) c.search-2.ensures

use Rattle.std.proofs.Common.{ℕ, Option, Some, None, MatchOption}
use Rattle.fix_apply.proofs.TreeSearch.{none_below_root}
use Rattle.fix_apply.proofs.tree.find.Goals as goal

at_root : (r : Option ℕ) (P Q : Type 0) (R : ℕ → Type 0) → (P → Q) → MatchOption r P R → MatchOption r Q R
at_root None P Q R f m = f m
at_root (Some p) P Q R f m = m

pub returns-else-is_empty : goal.returns-else-is_empty
returns-else-is_empty c = at_root c.search.result _ _ _ (none_below_root c.args.slots.now c.args.nodes.now.items c.args.file c.args.start c.args.end) c.search.ensures

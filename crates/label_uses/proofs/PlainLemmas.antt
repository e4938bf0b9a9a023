-- Files without labels and jumps to labels.
use Rattle.std.proofs.Common.{◌≡◌, ℕ, ◌||◌, Bool, true, false, cond, List, Option, Some, None, is_some, slice_get, refl, ap}
use Rattle.gv_base.proofs.Lists.{nothing_there}
use Rattle.go_tree.specs.declared.tree.Node.{Node}
use Rattle.go_tree.proofs.NodeLemmas.{differ}
use Rattle.label_uses.specs.Labels.{Heads, is_label, is_jump}
use Rattle.label_uses.specs.Plain.{NamesAt}

or_right : (a b : Bool) → b ≡ true → (a || b) ≡ true
or_right true b e = refl
or_right false b e = e

named : (b : Bool) (o : Option ℕ) (n : ℕ) → b ≡ true → o ≡ Some n → cond b (is_some o) false ≡ true
named true (Some m) n e f = refl
named true None n e f = absurd (nothing_there n f)
named false o n e f = absurd (differ false refl e)

-- where there are none, none heads a statement of either kind
pub unlabeled : (nodes : List Node) → ((p : ℕ) → NamesAt nodes p → ⊥) → (n : ℕ) → Heads is_label nodes n → ⊥
unlabeled nodes none n (p, node, there, kind, first) =
    none p (node, there, named (is_label node.kind || is_jump node.kind) (slice_get node.parts 0) n (ap (λ b. b || is_jump node.kind) kind) first)

pub unjumped : (nodes : List Node) → ((p : ℕ) → NamesAt nodes p → ⊥) → (n : ℕ) → Heads is_jump nodes n → ⊥
unjumped nodes none n (p, node, there, kind, first) =
    none p (node, there, named (is_label node.kind || is_jump node.kind) (slice_get node.parts 0) n (or_right (is_label node.kind) (is_jump node.kind) kind) first)

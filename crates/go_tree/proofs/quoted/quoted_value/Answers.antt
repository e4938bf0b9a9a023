use Rattle.std.proofs.Common.{sym, ◌∙◌}
use Rattle.go_tree.proofs.Literals.{plain_text}
use Rattle.go_tree.proofs.quoted.quoted_value.Goals as goal

pub returns : goal.returns
returns c = c.in_ok-text-2.ensures.items_if_clones_equal (λ x y e. e) ∙ sym (plain_text _ (sym c.contains.ensures.value ∙ c.if-contains.false))

use Rattle.std.proofs.Common.{◌≤◌, length, sym, ap, subst, ◌∙◌}
use Rattle.go_tree.specs.Lexeme.{opener, class_of}
use Rattle.go_lexeme.proofs.Items.{opener_within}
use Rattle.go_lexeme.proofs.item.class_at.Goals as goal

pub returns-clause-class : goal.returns-clause-class
returns-clause-class c = c.class_of.ensures ∙ ap (class_of _) c.byte_at.ensures

pub returns-clause-within : goal.returns-clause-within
returns-clause-within c = subst (λ k. opener k ≤ length c.args.rest.now) (sym (c.class_of.ensures ∙ ap (class_of _) c.byte_at.ensures)) (opener_within _ c.requires)

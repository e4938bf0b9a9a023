use Rattle.std.proofs.Common.{sym, ap, ◌∙◌}
use Rattle.go_tree.specs.Escapes.{is_plain}
use Rattle.go_tree.proofs.Literals.{ending_of}
use Rattle.go_tree.proofs.quoted.push_added.Goals as goal

pub push_unit-requires : goal.push_unit-requires
push_unit-requires c = ending_of _ _ _ (ap is_plain (sym c.escape_step.ensures) ∙ sym c.is_plain.ensures ∙ c.if-is_plain.true)

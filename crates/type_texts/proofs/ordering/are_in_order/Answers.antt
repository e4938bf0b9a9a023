use Rattle.std.proofs.Common.{sym, ◌∙◌}
use Rattle.type_model.specs.Tables.{types_in}
use Rattle.type_texts.proofs.OrderLaws.{rise_in_order}
use Rattle.type_texts.proofs.ordering.are_in_order.Goals as goal

pub returns-clause-ordered : goal.returns-clause-ordered
returns-clause-ordered c = λ h. rise_in_order (types_in c.args.table.now) c.args.methods.now (sym c.in_turn-answer.ensures ∙ h)

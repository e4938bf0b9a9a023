use Rattle.std.proofs.Common.{sym, ◌∙◌}
use Rattle.type_model.specs.GoTypes.{type_at}
use Rattle.type_model.specs.Tables.{types_in, declarations_in}
use Rattle.lock_types.proofs.PlainLemmas.{unlocked}
use Rattle.lock_types.proofs.plain.may_be_lock.Goals as goal

pub returns-clause-none : goal.returns-clause-none
returns-clause-none c = λ e. unlocked (declarations_in c.args.t.now) (type_at (types_in c.args.t.now) c.args.id) (sym c.holds_type.ensures ∙ e)

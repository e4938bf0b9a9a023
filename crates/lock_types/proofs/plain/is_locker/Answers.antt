use Rattle.std.proofs.Common.{sym, ◌∙◌}
use Rattle.type_model.specs.GoTypes.{type_at}
use Rattle.type_model.specs.Tables.{types_in, declarations_in}
use Rattle.lock_types.proofs.PlainLemmas.{no_struct}
use Rattle.lock_types.proofs.plain.is_locker.Goals as goal

pub returns : goal.returns
returns c = no_struct (declarations_in c.args.t.now) (type_at (types_in c.args.t.now) c.args.id) (sym c.is_struct_type.ensures ∙ c.if-is_struct_type.false)

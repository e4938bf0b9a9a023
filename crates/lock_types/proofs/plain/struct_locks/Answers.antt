use Rattle.type_model.specs.GoTypes.{type_at}
use Rattle.type_model.specs.Tables.{types_in, declarations_in}
use Rattle.lock_types.proofs.PlainLemmas.{locker_is, no_locker}
use Rattle.lock_types.proofs.plain.struct_locks.Goals as goal

pub returns-then-pointer : goal.returns-then-pointer
returns-then-pointer c =
    locker_is (declarations_in c.args.t.now) (type_at (types_in c.args.t.now) c.args.id) c.in_ok-value.value c.requires.is_struct (c.in_ok-pointer.ensures.0 c.if-pointer.true) c.in_ok-value.ensures

pub returns : goal.returns
returns c = no_locker (declarations_in c.args.t.now) (type_at (types_in c.args.t.now) c.args.id) c.in_ok-pointer.pointer c.in_ok-pointer.ensures c.if-pointer.false

use Rattle.std.specs.Prelude.{codes}
use Rattle.type_model.specs.GoTypes.{type_at, PointerTo}
use Rattle.type_model.specs.Tables.{types_in, declarations_in}
use Rattle.lock_types.specs.Locks.{HasMethod}
use Rattle.lock_types.proofs.PlainLemmas.{both_of, both_fail}
use Rattle.lock_types.proofs.plain.pointer_locks.Goals as goal

pub returns-then-locks : goal.returns-then-locks
returns-then-locks c =
    let ds = declarations_in c.args.t.now in
    let of = PointerTo (type_at (types_in c.args.t.now) c.args.id) in
    both_of (HasMethod ds of (codes "Lock")) (HasMethod ds of (codes "Unlock")) c.in_ok-unlocks.unlocks (c.in_ok-locks.ensures.0 c.if-locks.true) c.in_ok-unlocks.ensures

pub returns : goal.returns
returns c =
    let ds = declarations_in c.args.t.now in
    let of = PointerTo (type_at (types_in c.args.t.now) c.args.id) in
    both_fail (HasMethod ds of (codes "Lock")) (HasMethod ds of (codes "Unlock")) c.in_ok-locks.locks c.in_ok-locks.ensures c.if-locks.false

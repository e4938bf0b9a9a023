use Rattle.std.proofs.Common.{List, Bool, sym, subst, arith}
use Rattle.lock_types.specs.InTable.{lock_at, IsFlag}
use Rattle.lock_types.proofs.OrderLemmas.{parts_flagged, flag_more}
use Rattle.lock_types.proofs.flags.flag_one.Goals as goal

pub is_lock-requires-clause-within : goal.is_lock-requires-clause-within
is_lock-requires-clause-within c = c.requires.order.within c.args.i c.args.e c.requires.there

pub is_lock-requires-clause-parts : goal.is_lock-requires-clause-parts
is_lock-requires-clause-parts c = λ row are k part there.
    subst (λ (l : List Bool). IsFlag c.args.t.now part (lock_at l part)) (sym c.deref.ensures.value)
    (parts_flagged c.args.t.now c.requires.table c.args.list.now c.args.i c.args.flags.now.items c.args.e c.requires.order c.requires.there c.requires.so_far row are k part there)

pub set_flag-requires : goal.set_flag-requires
set_flag-requires c = let w = c.requires.order.within c.args.i c.args.e c.requires.there in let s = c.requires.so_far.size in omega (arith, w, s)

pub returns : goal.returns
returns c = flag_more c.args.t.now c.requires.table c.args.list.now c.args.i c.args.flags.now.items c.set_flag.new.flags.items c.args.e c.in_ok-value.value c.requires.order c.requires.there c.requires.so_far c.in_ok-value.ensures c.set_flag.ensures

use Rattle.std.proofs.Common.{Bool, ap, ◌∙◌, sym, subst}
use Rattle.lock_types.specs.InTable.{any_lock, IsFlag}
use Rattle.lock_types.proofs.OrderLemmas.{flag_locker, flag_parts}
use Rattle.lock_types.proofs.flags.is_lock.Goals as goal

pub returns-then-locker : goal.returns-then-locker
returns-then-locker c = flag_locker c.args.t.now c.requires.table c.args.id.0 c.in_ok-locker.locker c.in_ok-locker.ensures c.if-locker.true

pub returns : goal.returns
returns c =
    let row = c.in_ok-parts.parts.items in
    subst (λ (b : Bool). IsFlag c.args.t.now c.args.id.0 b) (sym (c.any_lock.ensures ∙ ap (λ l. any_lock c.args.flags.now l) c.deref.ensures.value))
    (flag_parts c.args.t.now c.requires.table c.args.id.0 c.in_ok-locker.locker c.args.flags.now row c.in_ok-locker.ensures c.if-locker.false c.in_ok-parts.ensures (c.requires.parts row c.in_ok-parts.ensures))

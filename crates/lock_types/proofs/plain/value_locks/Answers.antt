use Rattle.std.proofs.Common.{◌≡◌, ◌↔◌, ◌&&◌, List, Bool, true, sym, ap, ◌∙◌, subst}
use Rattle.std.specs.Prelude.{codes}
use Rattle.type_model.specs.declared.term.Method.{Method}
use Rattle.type_model.specs.GoTypes.{type_at}
use Rattle.type_model.specs.Tables.{types_in, declarations_in}
use Rattle.lock_types.specs.InTable.{any_plain}
use Rattle.lock_types.specs.Locks.{HasMethod, HasBoth}
use Rattle.lock_types.proofs.PlainLemmas.{both_tested, set_has}
use Rattle.lock_types.proofs.plain.value_locks.Goals as goal

pub returns : goal.returns
returns c =
    let t = c.args.t.now in
    let ds = declarations_in t in
    let of = type_at (types_in t) c.args.id in
    let methods = c.in_ok-methods.methods.items in
    subst (λ (b : Bool). (b ≡ true) ↔ HasBoth ds of) (sym (c.has_both.ensures ∙ ap (λ (l : List Method). any_plain (codes "Lock") l && any_plain (codes "Unlock") l) c.deref.ensures.value))
    (both_tested (HasMethod ds of (codes "Lock")) (HasMethod ds of (codes "Unlock")) (any_plain (codes "Lock") methods) (any_plain (codes "Unlock") methods)
    (set_has t of methods (codes "Lock") c.in_ok-methods.ensures) (set_has t of methods (codes "Unlock") c.in_ok-methods.ensures))

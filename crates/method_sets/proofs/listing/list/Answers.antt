use Rattle.std.proofs.Common.{List, sym, subst, inl}
use Rattle.type_model.specs.declared.term.Method.{Method}
use Rattle.type_model.specs.GoTypes.{type_at}
use Rattle.type_model.specs.Tables.{types_in}
use Rattle.method_sets.specs.Selections.{IsMethodSet}
use Rattle.method_sets.proofs.NoteSets.{empty_set}
use Rattle.method_sets.proofs.listing.list.Goals as goal

pub returns-in-Some : goal.returns-in-Some
returns-in-Some c =
    let t = c.args.t.now in
    let of = type_at (types_in t) c.args.of in
    let pointer = type_at (types_in t) c.in-Some._pointer in (
      (c.is_missing.ensures.known c.if-is_missing.false, inl (pointer, c.in-Some.ensures.1)),
      subst (λ (l : List Method). IsMethodSet t of l) (sym c.new.ensures.items) (empty_set t of (λ g is. is.given pointer c.in-Some.ensures.1)),
    )

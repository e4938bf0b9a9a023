use Rattle.std.proofs.Common.{List, map, sym, ap, ◌∙◌, subst}
use Rattle.type_model.specs.declared.term.TypeId.{TypeId}
use Rattle.type_model.specs.GoTypes.{GoType, AreBelow, type_at}
use Rattle.type_model.specs.Declarations.{held, under_of}
use Rattle.type_model.specs.Tables.{types_in, count, declarations_in}
use Rattle.rel_growth.proofs.HeldLemmas.{held_seen, held_below}
use Rattle.rel_growth.proofs.meeting.held_types.Goals as goal

pub returns-clause-are : goal.returns-clause-are
returns-clause-are c =
    let t = c.args.t.now in
    ap (λ (l : List TypeId). map (λ id. type_at (types_in t) id) l) c.in_ok-types.ensures
    ∙ (held_seen (declarations_in t) (types_in t) c.term.result.now c.underlying.result
    (c.underlying.ensures.is ∙ ap (λ (x : GoType). under_of (declarations_in t) x) c.term.ensures.is)
    ∙ ap (λ (x : GoType). held (declarations_in t) x) (sym c.term.ensures.is))

pub returns-clause-below : goal.returns-clause-below
returns-clause-below c =
    subst (λ (l : List TypeId). AreBelow (count c.args.t.now) l) (sym c.in_ok-types.ensures)
    (held_below c.args.a.0 (count c.args.t.now) c.term.result.now c.underlying.result c.term.ensures.over c.requires.within c.underlying.ensures.within)

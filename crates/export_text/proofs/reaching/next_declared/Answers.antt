use Rattle.std.proofs.Common.{◌++◌, List, map, sym, ap, ◌∙◌, subst}
use Rattle.type_model.specs.declared.term.TypeId.{TypeId}
use Rattle.type_model.specs.GoTypes.{GoType, AreBelow, type_at}
use Rattle.type_model.specs.Declarations.{under_of, declared_methods}
use Rattle.type_model.specs.Tables.{types_in, count, declarations_in}
use Rattle.package_faces.specs.Reaching.{next_types}
use Rattle.export_text.specs.Searching.{next_ids}
use Rattle.export_text.proofs.NextLaws.{next_seen, next_low, over_up}
use Rattle.export_text.proofs.reaching.next_declared.Goals as goal

pub returns-clause-are : goal.returns-clause-are
returns-clause-are c =
    let t = c.args.table.now in
    let out = c.in_ok-push_next.ensures ∙ ap (λ (l : List TypeId). l ++ next_ids c.args.path.now c.term.result.now c.underlying.result c.methods.result.now) c.new-out.ensures.items in
    ap (λ (l : List TypeId). map (λ id. type_at (types_in t) id) l) out
    ∙ next_seen (types_in t) (declarations_in t) c.args.path.now c.term.result.now c.underlying.result c.methods.result.now
    (c.underlying.ensures.is ∙ ap (λ (x : GoType). under_of (declarations_in t) x) c.term.ensures.is)
    (c.methods.ensures.are ∙ ap (λ (x : GoType). declared_methods (declarations_in t) x) c.term.ensures.is)
    ∙ ap (λ (x : GoType). next_types (declarations_in t) c.args.path.now x) (sym c.term.ensures.is)

pub returns-clause-below : goal.returns-clause-below
returns-clause-below c =
    let out = c.in_ok-push_next.ensures ∙ ap (λ (l : List TypeId). l ++ next_ids c.args.path.now c.term.result.now c.underlying.result c.methods.result.now) c.new-out.ensures.items in
    subst (λ (l : List TypeId). AreBelow (count c.args.table.now) l) (sym out)
    (next_low (count c.args.table.now) c.args.path.now c.term.result.now c.underlying.result c.methods.result.now (over_up c.args.id.0 (count c.args.table.now) c.term.result.now c.requires.within c.term.ensures.over) c.underlying.ensures.within c.methods.ensures.below)

use Rattle.std.proofs.Common.{◌++◌, List, [], map, None, sym, ap, ◌∙◌, subst}
use Rattle.std.proofs.lemmas.List.Elements.{All-nil}
use Rattle.type_model.specs.declared.term.TypeId.{TypeId}
use Rattle.type_model.specs.declared.term.Method.{Method}
use Rattle.type_model.specs.GoTypes.{GoType, AreBelow, SignatureBelow, type_at}
use Rattle.type_model.specs.Tables.{types_in, count}
use Rattle.package_faces.specs.Reaching.{next_types}
use Rattle.export_text.specs.Reaching.{nothing_declared}
use Rattle.export_text.specs.Searching.{next_ids}
use Rattle.export_text.proofs.NextLaws.{parts_seen, next_low, over_up}
use Rattle.export_text.proofs.reaching.next_parts.Goals as goal

pub returns-clause-are : goal.returns-clause-are
returns-clause-are c =
    let t = c.args.table.now in
    let out = c.in_ok-push_next.ensures ∙ ap (λ (l : List TypeId). l ++ next_ids c.args.path.now c.term.result.now None []) c.new-out.ensures.items in
    ap (λ (l : List TypeId). map (λ id. type_at (types_in t) id) l) out
    ∙ parts_seen (types_in t) c.args.path.now c.term.result.now
    ∙ ap (λ (x : GoType). next_types nothing_declared c.args.path.now x) (sym c.term.ensures.is)

pub returns-clause-below : goal.returns-clause-below
returns-clause-below c =
    let out = c.in_ok-push_next.ensures ∙ ap (λ (l : List TypeId). l ++ next_ids c.args.path.now c.term.result.now None []) c.new-out.ensures.items in
    subst (λ (l : List TypeId). AreBelow (count c.args.table.now) l) (sym out)
    (next_low (count c.args.table.now) c.args.path.now c.term.result.now None [] (over_up c.args.id.0 (count c.args.table.now) c.term.result.now c.requires.within c.term.ensures.over) tt (All-nil (λ (m : Method). SignatureBelow (count c.args.table.now) m.of)))

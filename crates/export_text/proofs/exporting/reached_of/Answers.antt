use Rattle.std.proofs.Common.{List, map, sym, ap, ◌∙◌, subst}
use Rattle.type_model.specs.declared.term.TypeId.{TypeId}
use Rattle.type_model.specs.GoTypes.{AreBelow}
use Rattle.type_model.specs.Tables.{types_in, count, declarations_in}
use Rattle.package_faces.specs.Interfaces.{id_of}
use Rattle.export_text.specs.Searching.{AreReached}
use Rattle.export_text.proofs.GatherLaws.{roots_in}
use Rattle.export_text.proofs.exporting.reached_of.Goals as goal

pub reached-requires-clause-within : goal.reached-requires-clause-within
reached-requires-clause-within c =
    let start = c.deref.ensures.value ∙ c.in_ok-start.ensures ∙ ap (map (λ o. id_of o.form)) c.as_slice.ensures in
    subst (λ (l : List TypeId). AreBelow (count c.args.table.now) l) (sym start) (roots_in c.args.path.now (count c.args.table.now) (types_in c.args.table.now) c.args.objects.now c.requires.within)

pub returns : goal.returns
returns c =
    let start = c.deref.ensures.value ∙ c.in_ok-start.ensures ∙ ap (map (λ o. id_of o.form)) c.as_slice.ensures in
    subst (λ (l : List TypeId). AreReached c.args.table.now (declarations_in c.args.table.now) c.args.path.now l c.in_ok-ids.ids.items) start
    (subst (λ p. AreReached c.args.table.now (declarations_in c.args.table.now) p c.deref.result.now c.in_ok-ids.ids.items) c.as_str.ensures c.in_ok-ids.ensures)

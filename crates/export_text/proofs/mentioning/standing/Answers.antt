use Rattle.std.proofs.Common.{List, sym, ◌∙◌, subst}
use Rattle.type_model.specs.declared.term.TypeId.{TypeId}
use Rattle.type_model.specs.GoTypes.{AreBelow}
use Rattle.type_model.specs.Tables.{types_in, count}
use Rattle.export_text.specs.Reaching.{nothing_declared}
use Rattle.export_text.specs.Searching.{AreReached}
use Rattle.export_text.proofs.MentionLaws.{face_low}
use Rattle.export_text.proofs.mentioning.standing.Goals as goal

pub reached-requires-clause-within : goal.reached-requires-clause-within
reached-requires-clause-within c =
    subst (λ (l : List TypeId). AreBelow (count c.args.table.now) l) (sym (c.deref.ensures.value ∙ c.in_ok-start.ensures)) (face_low (count c.args.table.now) (types_in c.args.table.now) c.args.interface.now c.requires.within)

pub returns : goal.returns
returns c =
    subst (λ (l : List TypeId). AreReached c.args.table.now nothing_declared c.args.interface.now.path l c.in_ok-ids.ids.items) (c.deref.ensures.value ∙ c.in_ok-start.ensures)
    (subst (λ p. AreReached c.args.table.now nothing_declared p c.deref.result.now c.in_ok-ids.ids.items) c.as_str.ensures c.in_ok-ids.ensures)

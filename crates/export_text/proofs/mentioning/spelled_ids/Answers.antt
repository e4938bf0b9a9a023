use Rattle.std.proofs.Common.{◌++◌, List, ap, ◌∙◌}
use Rattle.std.specs.List.{flat_map}
use Rattle.type_model.specs.declared.term.TypeId.{TypeId}
use Rattle.export_text.specs.MentionIds.{defined_ids, object_ids}
use Rattle.export_text.proofs.mentioning.spelled_ids.Goals as goal

pub returns : goal.returns
returns c =
    let first = rw c.as_slice.ensures at c.in_ok-push_objects.ensures in
    let second = rw c.as_slice-2.ensures at c.in_ok-push_defineds.ensures in
    second
    ∙ ap (λ (l : List TypeId). l ++ flat_map defined_ids c.args.interface.now.types) (first ∙ ap (λ (l : List TypeId). l ++ flat_map object_ids c.args.interface.now.objects) c.new-out.ensures.items)

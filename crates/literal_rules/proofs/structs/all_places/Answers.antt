use Rattle.std.proofs.Common.{map, ◌++◌, ◌∷◌, [], ap, ◌∙◌}
use Rattle.package_objects.proofs.GatherLemmas.{gather_more}
use Rattle.unit_read.specs.Subjects.{unit_of}
use Rattle.literal_rules.specs.Structs.{field_row}
use Rattle.literal_rules.specs.InCode.{field_in}
use Rattle.literal_rules.proofs.structs.all_places.Goals as goal

pub loop-i-preserved : goal.loop-i-preserved
loop-i-preserved c =
    gather_more (field_row (unit_of c.args.u.now) c.args.file (map (field_in c.args.s.now) c.args.fields.now) c.args.nodes.now c.args.v.now) c.loop-i.i c.loop-i.out.items _ c.loop-i.invariant
    (c.in_ok-push.ensures.items ∙ ap (λ o. c.loop-i.out.items ++ o ∷ []) (c.as_place-place.ensures ∙ c.field_at.ensures))

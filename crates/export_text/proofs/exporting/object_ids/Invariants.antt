use Rattle.std.proofs.Common.{◌≡◌, map, take}
use Rattle.package_faces.specs.Interfaces.{id_of}
use Rattle.export_text.proofs.exporting.object_ids.Given as goal

abbrev pub invariant-loop-object : goal.invariant-loop-object
invariant-loop-object l = l.ids.items ≡ map (λ o. id_of o.form) (take l.object-index l.objects)

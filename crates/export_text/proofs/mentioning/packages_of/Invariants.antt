use Rattle.std.proofs.Common.{◌≡◌, take}
use Rattle.std.specs.List.{flat_map}
use Rattle.type_model.specs.GoTypes.{type_at}
use Rattle.type_model.specs.Tables.{types_in}
use Rattle.export_text.specs.Mentions.{mention_in}
use Rattle.export_text.proofs.mentioning.packages_of.Given as goal

abbrev pub invariant-loop-id : goal.invariant-loop-id
invariant-loop-id l = l.out.items ≡ flat_map (λ id. mention_in l.path (type_at (types_in l.table) id)) (take l.id-index l.ids)

use Rattle.std.proofs.Common.{rules}
use Rattle.std.proofs.lemmas.Cmp.{nat_list_cmp_total}
use Rattle.std.proofs.lemmas.Fn.{always_returns_same}
use Rattle.std.proofs.lemmas.List.Sorted.{ranks_by}
use Rattle.package_faces.specs.declared.interface.ExportedType.{ExportedType}
use Rattle.export_text.specs.Listing.{type_stands}
use Rattle.export_text.proofs.listing.sort_types.Goals as goal

pub returns-clause-sorted : goal.returns-clause-sorted
returns-clause-sorted c =
    c.sort_unstable_by.ensures.sorted type_stands (ranks_by nat_list_cmp_total (λ (x : ExportedType). x.name))
    (always_returns_same _ _ _ (λ a r q k. search rules))

use Rattle.std.proofs.Common.{rules}
use Rattle.std.proofs.lemmas.Cmp.{nat_list_cmp_total}
use Rattle.std.proofs.lemmas.List.Sorted.{answers_always, ranks_by}
use Rattle.package_faces.specs.declared.interface.Exported.{Exported}
use Rattle.check_pkg.proofs.exports.sort.Goals as goal

pub returns-clause-sorted : goal.returns-clause-sorted
returns-clause-sorted c =
    c.in_ok-sort_by.ensures.sorted _ (ranks_by nat_list_cmp_total (λ (x : Exported). x.name)) (answers_always _ _ _ (λ f a r g called. search rules))

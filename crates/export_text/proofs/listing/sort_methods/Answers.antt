use Rattle.std.proofs.Common.{rules}
use Rattle.std.proofs.lemmas.Fn.{always_returns_same}
use Rattle.std.proofs.lemmas.List.Sorted.{ranks_by}
use Rattle.type_model.specs.declared.term.Method.{Method}
use Rattle.export_text.specs.Listing.{method_stands}
use Rattle.export_text.proofs.ListLaws.{numbered_total}
use Rattle.export_text.proofs.listing.sort_methods.Goals as goal

pub returns-clause-sorted : goal.returns-clause-sorted
returns-clause-sorted c =
    c.sort_unstable_by.ensures.sorted method_stands (ranks_by numbered_total (λ (x : Method). x))
    (always_returns_same _ _ _ (λ a r q k. search rules))

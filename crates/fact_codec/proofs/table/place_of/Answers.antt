use Rattle.std.specs.Ordering.{nat_cmp}
use Rattle.std.specs.Cmp.Lexicographic.{slice_cmp}
use Rattle.std.proofs.lemmas.Fn.{always_returns_same}
use Rattle.std.proofs.Common.{rules}
use Rattle.fact_codec.proofs.TableLemmas.{place-found}
use Rattle.fact_codec.proofs.table.place_of.Goals as goal

pub returns : goal.returns
returns g c = place-found c.args.entries.now c.args.name.now _ c.requires c.binary_search_by.ensures.bound
    (c.binary_search_by.ensures.position (λ e. slice_cmp nat_cmp e.0 c.args.name.now) (always_returns_same _ _ _ (λ a r q k. search rules)))

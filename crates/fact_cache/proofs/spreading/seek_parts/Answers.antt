use Rattle.std.proofs.Common.{ℕ, List, map, option_map, sym, ap, ◌∙◌}
use Rattle.fact_cache.specs.Caches.{lookup}
use Rattle.fact_cache.specs.Numbered.{entry_in}
use Rattle.fact_cache.specs.Spread.{bucket_of}
use Rattle.fact_cache.proofs.spreading.seek_parts.Goals as goal

pub seek_from-requires-clause-head : goal.seek_from-requires-clause-head
seek_from-requires-clause-head c = c.head-head.ensures.value ∙ ap (λ (ts : List (List ℕ)). bucket_of c.args.key (record { node = c.args.node; texts = ts })) (sym c.slices-slices.ensures)

pub returns : goal.returns
returns c = c.seek_from.ensures ∙ ap (λ (ts : List (List ℕ)). lookup (map (entry_in c.args.kept.now) c.args.rows.now.items) (record { node = c.args.node; texts = ts })) c.slices-slices.ensures

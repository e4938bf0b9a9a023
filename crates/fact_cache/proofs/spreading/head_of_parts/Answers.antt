use Rattle.std.proofs.Common.{ℕ, List, map, sym, ap, ◌∙◌}
use Rattle.fact_cache.specs.Spread.{mixed, mixed_numbers, head_of, bucket_of}
use Rattle.fact_cache.proofs.SpreadingLemmas.{key-same, spread-head}
use Rattle.fact_cache.proofs.spreading.head_of_parts.Goals as goal

pub returns-then-is_key-clause-value : goal.returns-then-is_key-clause-value
returns-then-is_key-clause-value c =
    c.head_by.ensures.value
    ∙ (ap (λ (ns : List ℕ). head_of (mixed c.args.key.factor (mixed_numbers c.args.key c.args.node ns) 0)) c.as_slice-list.ensures.value
    ∙ spread-head c.args.key c.args.own c.args.node (map (λ t. t.now) c.args.texts.now.items) c.args.numbers.now.items (key-same c.args.own c.args.key (sym c.is_key.ensures ∙ c.if-is_key.true)) c.requires.spread)

pub returns-clause-value : goal.returns-clause-value
returns-clause-value c =
    c.bucket.ensures.value ∙ ap (λ ts. bucket_of c.args.key (record { node = c.args.node; texts = map (λ t. t.now) ts })) c.as_slice-slices.ensures.value

use Rattle.std.proofs.Common.{sym, ap, ◌∙◌}
use Rattle.fact_cache.specs.declared.spread.Key.{Key}
use Rattle.fact_cache.specs.Spread.{text_mix}
use Rattle.fact_cache.proofs.SpreadingLemmas.{key-same}
use Rattle.fact_cache.proofs.keyed.number_by.Goals as goal

pub returns-then-is_key : goal.returns-then-is_key
returns-then-is_key c = c.requires ∙ ap (λ (k : Key). text_mix k c.args.bytes.now) (key-same c.args.own c.args.key (sym c.is_key.ensures ∙ c.if-is_key.true))

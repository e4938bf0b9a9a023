use Rattle.std.proofs.Common.{map, ap, ◌∙◌}
use Rattle.fact_cache.proofs.SpreadingLemmas.{spread-same}
use Rattle.fact_cache.proofs.spreading.Parts.copy.Goals as goal

-- the step `let copy = made(..)` is taken to be `made-copy`
pub made-copy-requires : goal.made-copy-requires
made-copy-requires c =
    spread-same c.self.inside.key (map (λ t. t.now) c.self.inside.texts.items) (map (λ t. t.now) c.in_ok-texts.texts.items) c.self.inside.numbers.items c.in_ok-numbers.numbers.items c.self.invariant
    (c.in_ok-texts.ensures ∙ ap (map (λ t. t.now)) c.as_slice-slices.ensures.value) (c.in_ok-numbers.ensures ∙ c.as_slice-list.ensures.value)

pub returns : goal.returns
returns c = c.made-copy.ensures ∙ (c.in_ok-texts.ensures ∙ (ap (map (λ t. t.now)) c.as_slice-slices.ensures.value ∙ c.self.view_is))

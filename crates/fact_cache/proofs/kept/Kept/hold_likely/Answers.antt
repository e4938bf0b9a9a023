use Rattle.std.proofs.Common.{◌≡◌, ℕ, ◌<◌, List, sym, ap, ◌∙◌, subst}
use Rattle.fact_cache.specs.declared.kept.Place.{Place}
use Rattle.fact_cache.specs.Kept.{uses_at, text_at, IsHeld}
use Rattle.fact_cache.proofs.AgainLemmas.{kept-there}
use Rattle.fact_cache.proofs.kept.Kept.hold_likely.Goals as goal

pub hold_again-requires : goal.hold_again-requires
hold_again-requires c =
    subst (λ (p : List Place). 0 < uses_at p c.args.likely) (c.deref.ensures.value ∙ c.self.view_is) (kept-there c.deref.result.now c.args.likely c.as_slice.result.now (sym c.is_kept_at.ensures ∙ c.if-is_kept_at.true)).0

pub returns-then-is_kept_at-clause-held : goal.returns-then-is_kept_at-clause-held
returns-then-is_kept_at-clause-held c =
    let is : text_at c.args.self.now c.args.likely ≡ c.args.bytes.now =
    sym (ap (λ (p : List Place). text_at p c.args.likely) (c.deref.ensures.value ∙ c.self.view_is))
    ∙ ((kept-there c.deref.result.now c.args.likely c.as_slice.result.now (sym c.is_kept_at.ensures ∙ c.if-is_kept_at.true)).1 ∙ c.as_slice.ensures) in
    subst (λ (t : List ℕ). IsHeld c.args.self.now c.hold_again.new.self t c.args.likely) is c.in_ok-hold_again.ensures.held

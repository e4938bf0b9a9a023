use Rattle.std.proofs.Common.{◌≡◌, ◌↔◌, Bool, true, not, sym, ap, ◌∙◌, subst}
use Rattle.std.specs.Prelude.{is_some}
use Rattle.flow.specs.declared.point.Around.{Around}
use Rattle.flow.specs.Around.{nowhere}
use Rattle.flow.proofs.AroundLemmas.{nowhere_by}
use Rattle.flow.proofs.SearchLemmas.{no_truth}
use Rattle.flow.proofs.around.is_nowhere.Goals as goal

pub returns-then-is_some : goal.returns-then-is_some
returns-then-is_some c = (
  λ e. no_truth e,
  λ e. sym (ap (λ (a : Around). is_some a.leave) e) ∙ (sym c.is_some.ensures ∙ c.if-is_some.true),
)

pub returns-then-is_some-2 : goal.returns-then-is_some-2
returns-then-is_some-2 c = (
  λ e. no_truth e,
  λ e. sym (ap (λ (a : Around). is_some a.again) e) ∙ (sym c.is_some-2.ensures ∙ c.if-is_some-2.true),
)

pub returns : goal.returns
returns c =
    subst (λ (b : Bool). (not b ≡ true) ↔ (c.args.around ≡ nowhere)) (sym c.is_some-3.ensures)
    (nowhere_by c.args.around (sym c.is_some.ensures ∙ c.if-is_some.false) (sym c.is_some-2.ensures ∙ c.if-is_some-2.false))

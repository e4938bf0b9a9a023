use Rattle.std.proofs.Common.{sym, ◌∙◌}
use Rattle.flow.proofs.SearchLemmas.{no_truth}
use Rattle.flow.proofs.around.gives_nothing.Goals as goal

pub returns-then-is_loop : goal.returns-then-is_loop
returns-then-is_loop c = (λ e. no_truth e, λ w. sym w.0 ∙ (sym c.is_loop.ensures ∙ c.if-is_loop.true))

pub returns-then-is_left : goal.returns-then-is_left
returns-then-is_left c = (λ e. no_truth e, λ w. sym w.1 ∙ (sym c.is_left.ensures ∙ c.if-is_left.true))

pub returns : goal.returns
returns c = (
  λ e. (sym c.is_loop.ensures ∙ c.if-is_loop.false, sym c.is_left.ensures ∙ c.if-is_left.false, c.is_nowhere.ensures.0 e),
  λ w. c.is_nowhere.ensures.1 w.2,
)

use Rattle.std.proofs.Common.{arith, sym, ◌∙◌}
use Rattle.primary_rules.proofs.ArrowLemmas.{arrow_on, arrow_first, arrow_end}
use Rattle.primary_rules.proofs.arrows.takes_arrow.Goals as goal

pub inward-preserved : goal.inward-preserved
inward-preserved c =
    let some = c.inward-test.true in
    c.inward.invariant ∙ arrow_on c.args.nodes.now c.inward.at (omega arith) (sym c.ends_at.ensures ∙ c.if-ends_at.false)

pub returns-then-ends_at : goal.returns-then-ends_at
returns-then-ends_at c =
    c.is_open_at.ensures ∙ sym (c.inward.invariant ∙ arrow_end c.args.nodes.now c.inward.at (sym c.ends_at.ensures ∙ c.if-ends_at.true))

pub returns : goal.returns
returns c =
    let none = c.inward-test.false in
    c.is_open_at-2.ensures ∙ sym (c.inward.invariant ∙ arrow_first c.args.nodes.now c.inward.at (omega arith))

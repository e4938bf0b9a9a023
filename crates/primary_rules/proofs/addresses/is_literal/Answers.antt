use Rattle.std.proofs.Common.{arith, sym, ◌∙◌}
use Rattle.primary_rules.proofs.TypeLemmas.{literal_on, literal_first, literal_end}
use Rattle.primary_rules.proofs.addresses.is_literal.Goals as goal

pub inward-preserved : goal.inward-preserved
inward-preserved c =
    let some = c.inward-test.true in
    c.inward.invariant ∙ literal_on c.args.nodes.now c.inward.at (omega arith) (sym c.is_bare.ensures ∙ c.if-is_bare.false)

pub returns-then-is_bare : goal.returns-then-is_bare
returns-then-is_bare c =
    c.is_composite_at.ensures ∙ sym (c.inward.invariant ∙ literal_end c.args.nodes.now c.inward.at (sym c.is_bare.ensures ∙ c.if-is_bare.true))

pub returns : goal.returns
returns c =
    let none = c.inward-test.false in
    c.is_composite_at-2.ensures ∙ sym (c.inward.invariant ∙ literal_first c.args.nodes.now c.inward.at (omega arith))

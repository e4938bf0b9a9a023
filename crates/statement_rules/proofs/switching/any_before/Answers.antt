use Rattle.std.proofs.Common.{◌≡◌, arith, sym, ap, ◌∙◌}
use Rattle.statement_rules.specs.Switching.{any_before}
use Rattle.statement_rules.proofs.DefaultLemmas.{before_on, before_found}
use Rattle.statement_rules.proofs.switching.any_before.Goals as goal

pub back-preserved : goal.back-preserved
back-preserved c =
    let some = c.back-test.true in
    c.back.invariant ∙ before_on c.args.nodes.now c.args.around.now c.back.i (omega arith) (sym c.is_default_at.ensures ∙ c.if-is_default_at.false)

pub returns-then-is_default_at : goal.returns-then-is_default_at
returns-then-is_default_at c =
    let some = c.back-test.true in
    sym (c.back.invariant ∙ before_found c.args.nodes.now c.args.around.now c.back.i (omega arith) (sym c.is_default_at.ensures ∙ c.if-is_default_at.true))

pub returns : goal.returns
returns c =
    let none = c.back-test.false in
    sym (c.back.invariant ∙ (let e : c.back.i ≡ 0 = omega arith in ap (any_before c.args.nodes.now c.args.around.now) e))

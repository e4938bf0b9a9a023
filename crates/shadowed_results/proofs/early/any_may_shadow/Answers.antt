use Rattle.std.proofs.Common.{false, refl, arith}
use Rattle.go_tree.proofs.NodeLemmas.{differ}
use Rattle.shadowed_results.proofs.EarlyLemmas.{none_may_more, none_may}
use Rattle.shadowed_results.proofs.early.any_may_shadow.Goals as goal

pub loop-f-init : goal.loop-f-init
loop-f-init c = λ f n low. absurd (omega (arith, low))

pub loop-f-preserved : goal.loop-f-preserved
loop-f-preserved c =
    none_may_more c.args.nodes.now c.requires.tree c.loop-f.f (λ n may. differ c.may_shadow.result c.if-may_shadow.false (c.may_shadow.ensures.1 (n, may))) c.loop-f.invariant

pub returns-then-may_shadow : goal.returns-then-may_shadow
returns-then-may_shadow c = (λ e. let found = c.may_shadow.ensures.0 c.if-may_shadow.true in (c.loop-f.f, found.0, found.1), λ w. refl)

pub returns : goal.returns
returns c = (
  λ e. absurd (differ false refl e),
  λ w. absurd (none_may c.args.nodes.now c.requires.tree c.loop-f.f c.loop-f-test.false c.loop-f.invariant w.0 w.1 w.2),
)

use Rattle.std.proofs.Common.{◌<◌, List, ℕ, length, sym, ◌∙◌, subst}
use Rattle.std.specs.List.{All}
use Rattle.settled.specs.Nets.{size}
use Rattle.type_model.proofs.ForgetLaws.{one_more, all_woven, over_before}
use Rattle.type_model.proofs.forgetting.net_of.Goals as goal

pub loop-term-preserved : goal.loop-term-preserved
loop-term-preserved c =
    one_more c.args.terms.now c.loop-term.term-index c.term-item.result c.loop-term.net c.reserve.new.self c.push.new.self c.deref.result.now c.rules_out.result c.loop-term-test.true c.term-item.is
    c.loop-term.invariant c.in_ok-reserve.ensures.net c.in_ok-reserve.ensures.size c.in_ok-reserve.ensures.same c.push.ensures.net c.push.ensures.size c.rules_out.ensures
    (c.deref.ensures.value ∙ c.in_ok-parts.ensures) c.push.ensures.blocked c.push.ensures.waits

pub push-requires-clause-below : goal.push-requires-clause-below
push-requires-clause-below c =
    subst (λ (l : List ℕ). All (λ p. p < size c.reserve.new.self) l) (sym (c.deref.ensures.value ∙ c.in_ok-parts.ensures))
    (over_before c.args.terms.now c.loop-term.term-index c.term-item.result c.loop-term.net c.reserve.new.self c.loop-term-test.true c.term-item.is c.requires.terms c.loop-term.invariant c.in_ok-reserve.ensures.size)

pub returns : goal.returns
returns c = all_woven c.args.terms.now c.loop-term.term-index c.loop-term.net c.loop-term-test.false c.loop-term.invariant

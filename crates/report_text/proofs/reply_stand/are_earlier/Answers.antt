use Rattle.std.proofs.Common.{All, subst, arith, refl}
use Rattle.std.proofs.lemmas.List.{take_all}
use Rattle.report_text.specs.ReplyStanding.{Earlier}
use Rattle.report_text.proofs.FixLemmas.{holds_more}
use Rattle.report_text.proofs.reply_stand.are_earlier.Goals as goal

pub loop-n-preserved : goal.loop-n-preserved
loop-n-preserved c = holds_more (Earlier c.args.count) c.args.choices.now c.loop-n.n c.choice_numbered-choice.result c.loop-n-test.true c.loop-n.invariant c.choice_numbered-choice.ensures (c.if-not-is_earlier.ensures.0 refl)

pub returns : goal.returns
returns c = (
  λ _. subst (All (Earlier c.args.count)) (take_all c.loop-n.n c.args.choices.now (let f = c.loop-n-test.false in omega (arith, f))) c.loop-n.invariant,
  λ _. refl,
)

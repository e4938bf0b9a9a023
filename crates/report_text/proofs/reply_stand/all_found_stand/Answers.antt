use Rattle.std.proofs.Common.{All, subst, arith, refl}
use Rattle.std.proofs.lemmas.List.{take_all}
use Rattle.report_text.specs.ReplyStanding.{FoundStands}
use Rattle.report_text.proofs.FixLemmas.{holds_more}
use Rattle.report_text.proofs.reply_stand.all_found_stand.Goals as goal

pub loop-line-preserved : goal.loop-line-preserved
loop-line-preserved c = holds_more (FoundStands c.args.files.now) c.args.found.now c.loop-line.line-index c.line-item.result c.loop-line-test.true c.loop-line.invariant c.line-item.is (c.if-not-found_stands.ensures.0 refl)

pub returns : goal.returns
returns c = (
  λ _. subst (All (FoundStands c.args.files.now)) (take_all c.loop-line.line-index c.args.found.now (let f = c.loop-line-test.false in omega (arith, f))) c.loop-line.invariant,
  λ _. refl,
)

use Rattle.type_texts.proofs.Wanted.{popped, passed}
use Rattle.export_text.proofs.type_skimming.next_wanted.Goals as goal

pub returns-then-run-gt0 : goal.returns-then-run-gt0
returns-then-run-gt0 c = popped c.args.wants.now.items c.loop-run.wants.items c.pop.new.self.items c.in-Some.run' _ c.loop-run.invariant c.in-Some.ensures.items c.if-run-gt0.true c.in_ok-push_run.ensures

pub loop-run-preserved : goal.loop-run-preserved
loop-run-preserved c = passed c.args.wants.now.items c.loop-run.wants.items c.pop.new.self.items c.in-Some.run' c.loop-run.invariant c.in-Some.ensures.items c.if-run-gt0.false

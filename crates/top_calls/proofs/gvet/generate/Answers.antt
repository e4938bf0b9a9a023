use Rattle.std.proofs.Common.{refl, ap, ◌∙◌, false}
use Rattle.std.specs.Prelude.{Err}
use Rattle.scripts.specs.declared.halt.Halt.TheVariants.{Ended}
use Rattle.top_calls.specs.declared.stop.Stop.TheVariants.{Halted, Broken}
use Rattle.top_calls.specs.Calls.{whole, part}
use Rattle.top_calls.proofs.CallLaws.{generates-none, writes-none, writes-whole, writes-part}
use Rattle.top_calls.proofs.gvet.generate.Goals as goal

pub returns-in-Err-clause-generates : goal.returns-in-Err-clause-generates
returns-in-Err-clause-generates g c = generates-none c.args.count (g.O.Sink.view c.args.output.now) _ c.number.ensures

pub returns-in-Err-clause-causes : goal.returns-in-Err-clause-causes
returns-in-Err-clause-causes g c = writes-none (g.O.Sink.view c.args.output.now) _ c.number.ensures

pub returns-in-Ok-say-clause-generates : goal.returns-in-Ok-say-clause-generates
returns-in-Ok-say-clause-generates g c =
    let s = c.in-Ok-say.ensures.says in
    record { out = s.said; says = s.says; stop = Halted Ended false; number = c.number-in-Ok-say.ensures; ends = whole refl (s.leaves ∙ c.deref.ensures.value ∙ c.in-Ok.ensures) }

pub returns-in-Ok-say-clause-causes : goal.returns-in-Ok-say-clause-causes
returns-in-Ok-say-clause-causes g c = writes-whole (g.O.Sink.view c.args.output.now) (g.O.Sink.view c.say.new.output) _ c.number-in-Ok-say.ensures

pub returns-clause-generates : goal.returns-clause-generates
returns-clause-generates g c =
    let s = c.in-Err-say.ensures.says in
    record { out = s.said; says = s.says; stop = Broken c.in-Err-say.cut; number = c.number-in-Err-say.ensures; ends = part c.in-Err-say.cut refl s.leaves.1 (let p = s.leaves.0 in (p.0, p.1 ∙ c.deref.ensures.value ∙ c.in-Ok.ensures)) }

pub returns-clause-causes : goal.returns-clause-causes
returns-clause-causes g c =
    let s = c.in-Err-say.ensures in
    writes-part (g.O.Sink.view c.args.output.now) (g.O.Sink.view c.say.new.output) c.in-Err-say.cut _ c.number-in-Err-say.ensures s.says.leaves.1 (λ e. s.sink_fault.cause (ap Err e)) (λ e. s.stalled.cause (ap Err e))

use Rattle.std.specs.Prelude.{map, string_bytes}
use Rattle.std.proofs.Common.{◌∙◌, ap, sym}
use Rattle.words.specs.declared.asked.Words.{Words}
use Rattle.top_calls.proofs.CallLaws.{complete-call}
use Rattle.top_calls.proofs.WorkersLaws.{workers-asked}
use Rattle.top_calls.proofs.gvet.gvet.Goals as goal

pub serve-requires-clause-workers : goal.serve-requires-clause-workers
serve-requires-clause-workers g c = λ κs _. workers-asked (map string_bytes c.args.words.now) c.in-Ok.words c.args.kits.now c.in-Ok.ensures c.requires.kits

pub returns-in-Err-clause-serves : goal.returns-in-Err-clause-serves
returns-in-Err-clause-serves g c = λ call asks. absurd (c.in-Err.ensures call asks)

pub returns-in-Err-clause-complete : goal.returns-in-Err-clause-complete
returns-in-Err-clause-complete g c = λ call asks sure. absurd (c.in-Err.ensures call asks)

pub returns-in-Err-clause-others : goal.returns-in-Err-clause-others
returns-in-Err-clause-others g c = λ call asks. absurd (c.in-Err.ensures call asks)

pub returns-in-Err-clause-idle : goal.returns-in-Err-clause-idle
returns-in-Err-clause-idle g c = λ call count asks e. absurd (c.in-Err.ensures call asks)

pub returns-in-Ok-clause-serves : goal.returns-in-Ok-clause-serves
returns-in-Ok-clause-serves g c = λ call asks.
    let same = c.one_reading.ensures (map string_bytes c.args.words.now) c.in-Ok.words call c.in-Ok.ensures asks in
    rw (sym same) c.serve.ensures.serves

pub returns-in-Ok-clause-complete : goal.returns-in-Ok-clause-complete
returns-in-Ok-clause-complete g c = λ call asks.
    let same = c.one_reading.ensures (map string_bytes c.args.words.now) c.in-Ok.words call c.in-Ok.ensures asks in
    rw (sym same) (λ sure. complete-call c.in-Ok.words _ _ c.serve.result c.serve.ensures.serves sure)

pub returns-in-Ok-clause-others : goal.returns-in-Ok-clause-others
returns-in-Ok-clause-others g c = λ call asks.
    let same = c.one_reading.ensures (map string_bytes c.args.words.now) c.in-Ok.words call c.in-Ok.ensures asks in
    rw (sym same) c.serve.ensures.others

pub returns-in-Ok-clause-idle : goal.returns-in-Ok-clause-idle
returns-in-Ok-clause-idle g c = λ call count asks e.
    let same = c.one_reading.ensures (map string_bytes c.args.words.now) c.in-Ok.words call c.in-Ok.ensures asks in
    c.serve.ensures.idle count (ap (λ (w : Words). w.asked) same ∙ e)

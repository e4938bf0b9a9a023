use Rattle.fact_cache.proofs.NumberedLemmas.{taken-row}
use Rattle.fact_cache.proofs.numbered.hold_row.Goals as goal

pub returns-in-Ok-clause-taken : goal.returns-in-Ok-clause-taken
returns-in-Ok-clause-taken c = (taken-row c.args.kept.now c.hold_all.new.kept c.hold.new.self c.args.input.now c.args.outcome.now c.as_slice.result.now c.hold_all.new.numbers.items c.new.result c.in-Ok.outcome
    c.in_ok-hold_all.ensures.taken c.as_slice.ensures c.in-Ok.ensures.held c.new.ensures).0

pub returns-in-Ok-clause-entry : goal.returns-in-Ok-clause-entry
returns-in-Ok-clause-entry c = (taken-row c.args.kept.now c.hold_all.new.kept c.hold.new.self c.args.input.now c.args.outcome.now c.as_slice.result.now c.hold_all.new.numbers.items c.new.result c.in-Ok.outcome
    c.in_ok-hold_all.ensures.taken c.as_slice.ensures c.in-Ok.ensures.held c.new.ensures).1

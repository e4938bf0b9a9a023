use Rattle.fact_cache.proofs.RestoreLemmas.{placed-texts, placed-outcome, row-put, row-found}
use Rattle.fact_cache.proofs.restore.put_row.Goals as goal

pub has_input-requires-clause-used : goal.has_input-requires-clause-used
has_input-requires-clause-used c = placed-texts c.args.key c.args.places.now c.args.kept.now c.args.index.now c.args.rows.now.items c.args.coded.now c.in_ok-row.row c.requires.cache c.requires.below c.in_ok-row.ensures

pub row_head-head-requires-clause-used : goal.row_head-head-requires-clause-used
row_head-head-requires-clause-used c = placed-texts c.args.key c.args.places.now c.args.kept.now c.args.index.now c.args.rows.now.items c.args.coded.now c.in_ok-row.row c.requires.cache c.requires.below c.in_ok-row.ensures

pub row_head-head-requires-clause-mixed : goal.row_head-head-requires-clause-mixed
row_head-head-requires-clause-mixed c = c.requires.cache.mixed

pub hold_row_again-requires-clause-used : goal.hold_row_again-requires-clause-used
hold_row_again-requires-clause-used c = placed-texts c.args.key c.args.places.now c.args.kept.now c.args.index.now c.args.rows.now.items c.args.coded.now c.in_ok-row.row c.requires.cache c.requires.below c.in_ok-row.ensures

pub hold_row_again-requires-clause-outcome : goal.hold_row_again-requires-clause-outcome
hold_row_again-requires-clause-outcome c = placed-outcome c.args.key c.args.places.now c.args.kept.now c.args.index.now c.args.rows.now.items c.args.coded.now c.in_ok-row.row c.requires.cache c.requires.below c.in_ok-row.ensures

pub returns-then-has_input-clause-found : goal.returns-then-has_input-clause-found
returns-then-has_input-clause-found c = λ f.
    row-found c.args.places.now c.args.kept.now c.args.rows.now.items c.args.coded.now c.in_ok-row.row c.in_ok-row.ensures (c.has_input.ensures.there c.if-has_input.true)

pub returns-in-Ok-clause-put : goal.returns-in-Ok-clause-put
returns-in-Ok-clause-put c = λ t.
    row-put c.args.key c.args.places.now c.args.kept.now c.hold_row_again.new.kept c.args.index.now c.append.new.index c.args.rows.now.items c.append.new.rows.items c.args.coded.now c.in_ok-row.row c.row_head-head.result
    c.requires.cache c.requires.below c.in_ok-row.ensures c.in_ok-hold_row_again.ensures.taken (c.has_input.ensures.absent c.if-has_input.false) c.row_head-head.ensures.value
    c.in-Ok.ensures.index c.in-Ok.ensures.rows (c.hold_row_again.ensures.mixed c.args.key c.requires.cache.mixed)

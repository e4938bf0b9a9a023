use Rattle.std.proofs.Common.{map}
use Rattle.fact_cache.specs.Kept.{text_at}
use Rattle.fact_cache.proofs.AgainLemmas.{again-row, again-still}
use Rattle.fact_cache.proofs.again.hold_row_again.Goals as goal

pub hold_again-requires : goal.hold_again-requires
hold_again-requires c = again-still c.args.kept.now c.hold_again_all.new.kept (map (text_at c.args.kept.now) c.as_slice.result.now) c.as_slice.result.now c.args.row.now.outcome
    c.in_ok-hold_again_all.ensures.taken c.requires.outcome

pub returns-clause-taken : goal.returns-clause-taken
returns-clause-taken c = again-row c.args.kept.now c.hold_again_all.new.kept c.hold_again.new.self c.as_slice.result.now c.args.row.now
    c.as_slice.ensures c.in_ok-hold_again_all.ensures.taken c.requires.outcome c.in_ok-hold_again.ensures.held

use Rattle.std.proofs.Common.{◌≡◌, Some, refl, length, slice_get, map}
use Rattle.std.proofs.lemmas.Option.{slice_get_read}
use Rattle.fact_cache.specs.Kept.{text_at}
use Rattle.fact_cache.specs.Numbered.{entry_in}
use Rattle.fact_cache.specs.Coded.{decoded}
use Rattle.fact_cache.proofs.RestoreLemmas.{row-below, rows-turn, rows-same, all-rows}
use Rattle.fact_cache.proofs.restore.put_rows.Goals as goal

pub put_row-requires-clause-below : goal.put_row-requires-clause-below
put_row-requires-clause-below c =
    row-below c.args.coded.now c.loop-i.i (length c.args.places.now) c.coded_at-row.result.now (slice_get_read c.args.coded.now (length c.args.coded.now) c.loop-i.i c.coded_at-row.result.now refl c.loop-i-test.true c.coded_at-row.ensures) c.requires.below

pub loop-i-preserved : goal.loop-i-preserved
loop-i-preserved c =
    let there : slice_get c.args.coded.now c.loop-i.i ≡ Some c.coded_at-row.result.now = slice_get_read c.args.coded.now (length c.args.coded.now) c.loop-i.i c.coded_at-row.result.now refl c.loop-i-test.true c.coded_at-row.ensures in
    rows-turn c.args.key c.args.places.now c.args.kept.now c.loop-i.kept c.put_row.new.kept c.put_row.new.index c.loop-i.rows.items c.put_row.new.rows.items c.args.coded.now c.loop-i.i c.coded_at-row.result.now
    c.loop-i.invariant.1 c.loop-i.invariant.2 there (row-below c.args.coded.now c.loop-i.i (length c.args.places.now) c.coded_at-row.result.now there c.requires.below) (c.in_ok-fresh.ensures.put c.if-not-fresh.false)

pub returns-then-not-fresh-clause-same : goal.returns-then-not-fresh-clause-same
returns-then-not-fresh-clause-same c = λ f.
    let there : slice_get c.args.coded.now c.loop-i.i ≡ Some c.coded_at-row.result.now = slice_get_read c.args.coded.now (length c.args.coded.now) c.loop-i.i c.coded_at-row.result.now refl c.loop-i-test.true c.coded_at-row.ensures in
    rows-same c.args.places.now c.args.kept.now c.loop-i.kept c.loop-i.rows.items c.args.coded.now c.loop-i.i c.coded_at-row.result.now
    c.loop-i.invariant.1 c.loop-i.invariant.2 there (row-below c.args.coded.now c.loop-i.i (length c.args.places.now) c.coded_at-row.result.now there c.requires.below) (c.in_ok-fresh.ensures.found c.if-not-fresh.true)

pub returns-clause-entries : goal.returns-clause-entries
returns-clause-entries c = λ t. all-rows (decoded (map (text_at c.args.kept.now) c.args.places.now)) c.args.coded.now c.loop-i.i (map (entry_in c.loop-i.kept) c.loop-i.rows.items) c.loop-i-test.false c.loop-i.invariant.2

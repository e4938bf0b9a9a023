use Rattle.std.proofs.Common.{◌∙◌, sym, arith, map}
use Rattle.fact_cache.specs.Kept.{text_at}
use Rattle.fact_cache.specs.Caches.{lookup}
use Rattle.fact_cache.specs.Numbered.{input_in, entry_in}
use Rattle.fact_cache.proofs.CacheLemmas.{seek-finds, seek-steps, seek-ends}
use Rattle.fact_cache.proofs.AgainLemmas.{passed-used, some-not-none}
use Rattle.fact_cache.proofs.again.has_input.Goals as goal

pub is_row_like-requires-clause-first : goal.is_row_like-requires-clause-first
is_row_like-requires-clause-first c =
    passed-used c.args.key c.args.more.now c.args.kept.now c.args.index.now c.args.rows.now.items (input_in c.args.kept.now c.args.row.now) c.loop-at.at c.row_at-other.result.now
    c.requires.cache c.loop-at.invariant c.loop-at-test.true c.row_at-other.ensures

pub returns-then-is_row_like-clause-there : goal.returns-then-is_row_like-clause-there
returns-then-is_row_like-clause-there c = λ t.
    some-not-none (lookup (map (entry_in c.args.kept.now) c.args.rows.now.items) (input_in c.args.kept.now c.args.row.now)) (text_at c.args.kept.now c.row_at-other.result.now.outcome)
    (seek-finds c.args.key c.args.more.now c.args.kept.now c.args.index.now c.args.rows.now.items (input_in c.args.kept.now c.args.row.now) c.loop-at.at c.row_at-other.result.now
    c.requires.cache c.loop-at.invariant c.loop-at-test.true c.row_at-other.ensures (sym c.is_row_like.ensures ∙ c.if-is_row_like.true))

pub loop-at-preserved : goal.loop-at-preserved
loop-at-preserved c =
    seek-steps c.args.key c.args.more.now c.args.kept.now c.args.index.now c.args.rows.now.items (input_in c.args.kept.now c.args.row.now) c.loop-at.at c.before-at.result c.row_at-other.result.now
    c.requires.cache c.loop-at.invariant c.loop-at-test.true c.row_at-other.ensures (sym c.is_row_like.ensures ∙ c.if-is_row_like.false) c.before-at.ensures

pub returns-clause-absent : goal.returns-clause-absent
returns-clause-absent c = λ f.
    seek-ends c.args.key c.args.more.now c.args.kept.now c.args.index.now c.args.rows.now.items (input_in c.args.kept.now c.args.row.now) c.loop-at.at c.requires.cache c.loop-at.invariant (omega (arith, c.loop-at-test.false))

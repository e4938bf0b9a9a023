use Rattle.std.proofs.Common.{[], ℕ, ◌∙◌, sym, ap, arith, Some, List, map}
use Rattle.fact_cache.proofs.CacheLemmas.{seek-finds, seek-steps, seek-ends}
use Rattle.fact_cache.proofs.slices.seek_from.Goals as goal

pub returns-then-is_row_of : goal.returns-then-is_row_of
returns-then-is_row_of c =
    ap (λ (o : List ℕ). Some o) c.text.ensures ∙ sym (seek-finds c.args.key [] c.args.kept.now c.args.index.now c.args.rows.now.items (record { node = c.args.node; texts = map (λ t. t.now) c.args.texts.now }) c.loop-at.at c.row_at-row.result.now
    c.requires.cache c.loop-at.invariant c.loop-at-test.true c.row_at-row.ensures (sym c.is_row_of.ensures ∙ c.if-is_row_of.true))

pub loop-at-preserved : goal.loop-at-preserved
loop-at-preserved c =
    seek-steps c.args.key [] c.args.kept.now c.args.index.now c.args.rows.now.items (record { node = c.args.node; texts = map (λ t. t.now) c.args.texts.now }) c.loop-at.at c.before-at.result c.row_at-row.result.now
    c.requires.cache c.loop-at.invariant c.loop-at-test.true c.row_at-row.ensures (sym c.is_row_of.ensures ∙ c.if-is_row_of.false) c.before-at.ensures

pub returns : goal.returns
returns c = sym (seek-ends c.args.key [] c.args.kept.now c.args.index.now c.args.rows.now.items (record { node = c.args.node; texts = map (λ t. t.now) c.args.texts.now }) c.loop-at.at c.requires.cache c.loop-at.invariant (omega (arith, c.loop-at-test.false)))

use Rattle.std.proofs.Common.{◌<◌, ◌≤◌, ◌∙◌, ◌++◌, refl, length, take, subst, sym}
use Rattle.std.specs.List.{flat_map}
use Rattle.std.proofs.lemmas.Option.{slice_get_read}
use Rattle.fact_cache.specs.Numbered.{numbers_of}
use Rattle.fact_cache.specs.Placed.{AreBelow}
use Rattle.fact_cache.proofs.RestoreLemmas.{row-below}
use Rattle.fact_cache.proofs.RankLemmas.{rows-noted, noted-begins, all-noted}
use Rattle.fact_cache.proofs.encode.note_rows.Goals as goal

pub loop-i-init : goal.loop-i-init
loop-i-init c = (refl, λ before is. noted-begins c.args.ranks.now.items c.args.order.now.items before is)

pub note_row-requires : goal.note_row-requires
note_row-requires c =
    let inside : c.loop-i.i < length c.args.rows.now.items = subst (λ k. c.loop-i.i < k) c.row_count-i-end.ensures c.loop-i-test.true in
    subst (λ k. AreBelow k (numbers_of c.row_at-row.result.now)) (sym c.loop-i.invariant.0)
    (row-below c.args.rows.now.items c.loop-i.i (length c.args.ranks.now.items) c.row_at-row.result.now
    (slice_get_read c.args.rows.now.items (length c.args.rows.now.items) c.loop-i.i c.row_at-row.result.now refl inside c.row_at-row.ensures) c.requires)

pub loop-i-preserved : goal.loop-i-preserved
loop-i-preserved c =
    let inside : c.loop-i.i < length c.args.rows.now.items = subst (λ k. c.loop-i.i < k) c.row_count-i-end.ensures c.loop-i-test.true in (
      c.note_row.ensures.size ∙ c.loop-i.invariant.0,
      λ before is. rows-noted c.note_row.new.ranks.items c.note_row.new.order.items before c.args.rows.now.items c.loop-i.i c.row_at-row.result.now
          (slice_get_read c.args.rows.now.items (length c.args.rows.now.items) c.loop-i.i c.row_at-row.result.now refl inside c.row_at-row.ensures)
          (c.in_ok-note_row.ensures.noted (before ++ flat_map numbers_of (take c.loop-i.i c.args.rows.now.items)) (c.loop-i.invariant.1 before is)),
    )

pub returns : goal.returns
returns c = λ before is.
    all-noted c.loop-i.ranks.items c.loop-i.order.items before c.args.rows.now.items c.loop-i.i (subst (λ k. k ≤ c.loop-i.i) c.row_count-i-end.ensures c.loop-i-test.false) (c.loop-i.invariant.1 before is)

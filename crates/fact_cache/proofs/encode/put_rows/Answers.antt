use Rattle.std.proofs.Common.{◌<◌, ◌++◌, refl, length, subst}
use Rattle.std.proofs.lemmas.Option.{slice_get_read}
use Rattle.gv_bytes.specs.Spelling.{natural}
use Rattle.fact_cache.specs.declared.numbered.Numbered.{Numbered}
use Rattle.fact_cache.specs.Coded.{row_text}
use Rattle.fact_cache.specs.Ranked.{numbered_by}
use Rattle.fact_cache.proofs.RankLemmas.{written-turn}
use Rattle.fact_cache.proofs.encode.put_rows.Goals as goal

pub loop-i-preserved : goal.loop-i-preserved
loop-i-preserved c =
    let inside : c.loop-i.i < length c.args.rows.now.items = subst (λ k. c.loop-i.i < k) c.row_count-i-end.ensures c.loop-i-test.true in
    written-turn (λ (r : Numbered). row_text (numbered_by c.args.ranks.now r)) (c.args.out.now.items ++ natural (length c.args.rows.now.items)) c.loop-i.out.items c.put_row.new.out.items c.args.rows.now.items c.loop-i.i c.row_at-row.result.now
    (slice_get_read c.args.rows.now.items (length c.args.rows.now.items) c.loop-i.i c.row_at-row.result.now refl inside c.row_at-row.ensures) c.in_ok-put_row.ensures c.loop-i.invariant

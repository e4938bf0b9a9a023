use Rattle.std.proofs.Common.{◌≡◌, ◌∙◌, [], ◌++◌, ℕ, length}
use Rattle.gv_bytes.specs.Spelling.{text, items}
use Rattle.fact_cache.specs.declared.numbered.Numbered.{Numbered}
use Rattle.fact_cache.specs.CacheTexts.{HEADER}
use Rattle.fact_cache.specs.Kept.{text_at}
use Rattle.fact_cache.specs.Coded.{row_text}
use Rattle.fact_cache.specs.Ranked.{numbered_by}
use Rattle.fact_cache.proofs.RankLemmas.{rows-below, none-noted, noted-spells}
use Rattle.fact_cache.proofs.list.Cache.encode.Goals as goal

pub note_rows-requires : goal.note_rows-requires
note_rows-requires c = rows-below c.self.inside.key [] c.self.inside.kept c.self.inside.index c.self.inside.rows.items c.size.result (length c.in_ok-ranks.ranks.items) c.self.invariant c.size.ensures.value c.in_ok-ranks.ensures.0

pub returns : goal.returns
returns c =
    let bytes_is : c.in_ok-bytes.bytes ≡ HEADER ++ items (λ (n : ℕ). text (text_at c.self.inside.kept n)) c.note_rows.new.order.items ++ items (λ (r : Numbered). row_text (numbered_by c.note_rows.new.ranks.items r)) c.self.inside.rows.items =
    rw (c.deref.ensures.value, c.deref-2.ensures.value) at c.in_ok-bytes.ensures in
    bytes_is ∙ noted-spells c.self.inside.key c.self.inside.kept c.self.inside.index c.self.inside.rows.items c.note_rows.new.ranks.items c.note_rows.new.order.items c.args.self.now
    c.self.invariant c.size.ensures.distinct (c.in_ok-note_rows.ensures [] (none-noted c.in_ok-ranks.ranks.items c.new-order.result.items c.in_ok-ranks.ensures.1 c.new-order.ensures.items)) c.self.view_is

use Rattle.std.proofs.Common.{◌++◌, length}
use Rattle.fact_cache.proofs.RankLemmas.{noted-row, texts-below, outcome-below}
use Rattle.fact_cache.proofs.encode.note_row.Goals as goal

pub note_all-requires : goal.note_all-requires
note_all-requires c = texts-below (length c.args.ranks.now.items) c.args.row.now c.as_slice.result.now c.as_slice.ensures c.requires

pub note-requires : goal.note-requires
note-requires c = outcome-below (length c.args.ranks.now.items) (length c.note_all.new.ranks.items) c.args.row.now c.requires c.note_all.ensures.size

pub returns-clause-noted : goal.returns-clause-noted
returns-clause-noted c = λ before is.
    noted-row c.note.new.ranks.items c.note.new.order.items before c.as_slice.result.now c.args.row.now c.as_slice.ensures
    (c.in_ok-note.ensures.noted (before ++ c.as_slice.result.now) (c.in_ok-note_all.ensures.noted before is))

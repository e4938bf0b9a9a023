use Rattle.std.proofs.Common.{◌≡◌, take, map}
use Rattle.fact_cache.specs.Kept.{text_at}
use Rattle.fact_cache.specs.Numbered.{entry_in, IsCache}
use Rattle.fact_cache.specs.Coded.{decoded}
use Rattle.fact_cache.proofs.restore.put_rows.Given as goal

abbrev pub invariant-loop-i : goal.invariant-loop-i
invariant-loop-i l =
    IsCache l.fn.key l.places l.kept l.index l.rows.items
    × (map (text_at l.kept) l.places ≡ map (text_at l.initial.kept) l.places)
    × (map (entry_in l.kept) l.rows.items ≡ map (decoded (map (text_at l.initial.kept) l.places)) (take l.i l.coded))

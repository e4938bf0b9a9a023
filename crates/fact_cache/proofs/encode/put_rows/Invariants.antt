use Rattle.std.proofs.Common.{◌≡◌, ◌++◌, length, take}
use Rattle.std.specs.List.{flat_map}
use Rattle.gv_bytes.specs.Spelling.{natural}
use Rattle.fact_cache.specs.declared.numbered.Numbered.{Numbered}
use Rattle.fact_cache.specs.Coded.{row_text}
use Rattle.fact_cache.specs.Ranked.{numbered_by}
use Rattle.fact_cache.proofs.encode.put_rows.Given as goal

abbrev pub invariant-loop-i : goal.invariant-loop-i
invariant-loop-i l = l.out.items ≡ l.fn.out.items ++ natural (length l.rows.items) ++ flat_map (λ (r : Numbered). row_text (numbered_by l.ranks r)) (take l.i l.rows.items)

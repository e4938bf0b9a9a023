use Rattle.std.proofs.Common.{◌≡◌, ◌++◌, ℕ, length, take}
use Rattle.std.specs.List.{flat_map}
use Rattle.gv_bytes.specs.Spelling.{natural, text}
use Rattle.fact_cache.specs.Kept.{text_at}
use Rattle.fact_cache.proofs.encode.put_texts.Given as goal

abbrev pub invariant-loop-n : goal.invariant-loop-n
invariant-loop-n l = l.out.items ≡ l.fn.out.items ++ natural (length l.order) ++ flat_map (λ (n : ℕ). text (text_at l.kept n)) (take l.n-index l.order)

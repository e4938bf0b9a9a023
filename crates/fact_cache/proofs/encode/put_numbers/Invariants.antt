use Rattle.std.proofs.Common.{◌≡◌, ◌++◌, ℕ, length, take}
use Rattle.std.specs.List.{flat_map}
use Rattle.gv_bytes.specs.Spelling.{natural}
use Rattle.fact_cache.specs.Ranked.{number_at}
use Rattle.fact_cache.proofs.encode.put_numbers.Given as goal

abbrev pub invariant-loop-n : goal.invariant-loop-n
invariant-loop-n l = l.out.items ≡ l.fn.out.items ++ natural (length l.numbers) ++ flat_map (λ (n : ℕ). natural (number_at l.ranks n)) (take l.n-index l.numbers)

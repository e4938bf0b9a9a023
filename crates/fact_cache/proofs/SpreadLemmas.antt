-- Seven bytes more are mixed in.
use Rattle.std.proofs.Common.{◌≡◌, ℕ, ◌<◌, ◌+◌, ◌-◌, List, drop, take, slice_index_or, sym, ap, ◌∙◌, arith, suc}
use Rattle.std.proofs.lemmas.List.{get_or-take}
use Rattle.fact_cache.specs.Spread.{mixed, word_in, mixed_words}

-- they stand in the front
pub word-front : (bytes front : List ℕ) → front ≡ take 7 bytes → word_in front ≡ word_in bytes
word-front bytes front is =
    let at : (k : ℕ) → k < 7 → slice_index_or front k 0 ≡ slice_index_or bytes k 0 = λ k low. ap (λ (l : List ℕ). slice_index_or l k 0) is ∙ get_or-take 7 bytes k 0 low in
    let a = at 0 (omega arith) in
    let b = at 1 (omega arith) in
    let c = at 2 (omega arith) in
    let d = at 3 (omega arith) in
    let e = at 4 (omega arith) in
    let f = at 5 (omega arith) in
    let g = at 6 (omega arith) in
    omega (arith, a, b, c, d, e, f, g)

pub words-step : (point count i hash w risen : ℕ) (rest after : List ℕ) (total : ℕ) → i < count → w ≡ word_in rest → risen ≡ mixed point hash w → after ≡ drop 7 rest
    → mixed_words point (count - i) hash rest ≡ total → mixed_words point (count - (i + 1)) risen after ≡ total
words-step point count i hash w risen rest after total below w_is risen_is after_is so_far =
    let left : count - i ≡ suc (count - (i + 1)) = omega (arith, below) in
    let one : mixed_words point (suc (count - (i + 1))) hash rest ≡ total = sym (ap (λ k. mixed_words point k hash rest) left) ∙ so_far in
    let hash_is : risen ≡ mixed point hash (word_in rest) = risen_is ∙ ap (λ k. mixed point hash k) w_is in
    ap (λ k. mixed_words point (count - (i + 1)) k after) hash_is ∙ (ap (λ l. mixed_words point (count - (i + 1)) (mixed point hash (word_in rest)) l) after_is ∙ one)

-- The kept texts: at each place a text and how often it is used. A place without uses counts for nothing.
use Rattle.std.specs.Prelude.{◌≡◌, ◌==◌, ◌&&◌, ℕ, ◌+◌, ◌<◌, Bool, Some, List, [], ◌∷◌, map, length, slice_get, slice_index_or, nat_lt, if◌then◌else◌}
use Rattle.std.specs.Str.{bytes_eq}
use Rattle.fact_cache.specs.Inputs.{Text}
use Rattle.fact_cache.specs.Spread.{text_mix, head_of}
use Rattle.fact_cache.specs.declared.spread.Key.{Key}
use Rattle.fact_cache.specs.declared.kept.Place.{Place}

abbrev pub uses_of : Place → ℕ
uses_of p = p.uses

abbrev pub bytes_of : Place → Text
bytes_of p = p.bytes

abbrev pub uses_at : List Place → ℕ → ℕ
uses_at places n = slice_index_or (map uses_of places) n 0

abbrev pub text_at : List Place → ℕ → Text
text_at places n = slice_index_or (map bytes_of places) n []

abbrev pub mix_of : Place → ℕ
mix_of p = p.mix

abbrev pub mix_at : List Place → ℕ → ℕ
mix_at places n = slice_index_or (map mix_of places) n 0

-- each kept text stands beside its number in the mixes
abbrev pub AreMixed : Key → List Place → Type 0
AreMixed key places = (n : ℕ) → 0 < uses_at places n → mix_at places n ≡ text_mix key (text_at places n)

-- where a text is kept, it is beside this number
abbrev pub IsMixOf : List Place → Text → ℕ → Type 0
IsMixOf places text mix = (n : ℕ) → 0 < uses_at places n → text_at places n ≡ text → mix_at places n ≡ mix

abbrev pub is_text_at : List Place → ℕ → ℕ → Text → Bool
is_text_at places n mix text = nat_lt 0 (uses_at places n) && ((mix_at places n == mix) && bytes_eq (text_at places n) text)

-- this text is kept there
abbrev pub is_kept_at : List Place → ℕ → Text → Bool
is_kept_at places n text = nat_lt 0 (uses_at places n) && bytes_eq (text_at places n) text

-- no kept text is this one
abbrev pub IsAbsent : List Place → Text → Type 0
IsAbsent places text = (n : ℕ) → 0 < uses_at places n → text_at places n ≡ text → ⊥

-- one is
abbrev pub IsThere : List Place → Text → Type 0
IsThere places text = (n : ℕ) × (used : 0 < uses_at places n) × (text_at places n ≡ text)

-- the bytes that a text of so many uses takes
abbrev pub weight : ℕ → Text → ℕ
weight uses text = if uses == 0 then 0 else length text

abbrev pub kept_bytes : List Place → ℕ
kept_bytes [] = 0
kept_bytes (p ∷ ps) = weight p.uses p.bytes + kept_bytes ps

-- each kept text is found from the head of its mix, and no two are equal
pub record AreFound (index : List ℕ) (places : List Place) : Type 0 where
  pub size : length index ≡ length places
  pub keyed : (n : ℕ) → 0 < uses_at places n → slice_get index n ≡ Some (head_of (mix_at places n))
  pub distinct : (m n : ℕ) → 0 < uses_at places m → 0 < uses_at places n → text_at places m ≡ text_at places n → m ≡ n

pub record AreKept (index : List ℕ) (places : List Place) (total : ℕ) : Type 0 where
  pub found : AreFound index places
  pub sum : total ≡ kept_bytes places

-- only the place `n` differs
pub record IsChanged (old new : List Place) (n uses mix : ℕ) (text : Text) : Type 0 where
  pub uses_here : uses_at new n ≡ uses
  pub mix_here : mix_at new n ≡ mix
  pub text_here : text_at new n ≡ text
  pub uses_there : (m : ℕ) → (m ≡ n → ⊥) → uses_at new m ≡ uses_at old m
  pub mix_there : (m : ℕ) → (m ≡ n → ⊥) → mix_at new m ≡ mix_at old m
  pub text_there : (m : ℕ) → (m ≡ n → ⊥) → text_at new m ≡ text_at old m
  pub sum : kept_bytes new + weight (uses_at old n) (text_at old n) ≡ kept_bytes old + weight uses text

abbrev pub one_at : ℕ → ℕ → ℕ
one_at n m = if n == m then 1 else 0

-- the text of `n` is used once more
pub record IsHeld (old new : List Place) (text : Text) (n : ℕ) : Type 0 where
  pub here : text_at new n ≡ text
  pub more : (m : ℕ) → uses_at new m ≡ one_at n m + uses_at old m
  pub same : (m : ℕ) → 0 < uses_at old m → text_at new m ≡ text_at old m

-- and once less
pub record IsFreed (old new : List Place) (n : ℕ) : Type 0 where
  pub less : (m : ℕ) → uses_at old m ≡ one_at n m + uses_at new m
  pub same : (m : ℕ) → 0 < uses_at new m → text_at new m ≡ text_at old m

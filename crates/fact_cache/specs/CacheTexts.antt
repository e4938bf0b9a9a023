-- The text of a cache, as a function of its list of entries: so a cache has one spelling.
use Rattle.std.specs.Prelude.{◌≡◌, ℕ, ◌+◌, ◌<◌, ◌^◌, List, [], ◌∷◌, ◌++◌, if◌then◌else◌}
use Rattle.std.specs.Str.{bytes_eq}
use Rattle.std.specs.List.{AllByRecursion}
use Rattle.gv_bytes.specs.Spelling.{natural, text, items}
use Rattle.fact_cache.specs.declared.list.Entry.{Entry}
use Rattle.fact_cache.specs.Inputs.{Text}
use Rattle.fact_cache.specs.Caches.{AreDistinct, mentions, is_among}

-- `gvcache 1` and a newline
abbrev pub HEADER : List ℕ
HEADER = 103 ∷ 118 ∷ 99 ∷ 97 ∷ 99 ∷ 104 ∷ 101 ∷ 32 ∷ 49 ∷ 10 ∷ []

-- the texts that aren't among the seen, each once, in order of first mention
abbrev pub firsts_after : List Text → List Text → List Text
firsts_after seen [] = []
firsts_after seen (t ∷ ts) = if is_among t seen then firsts_after seen ts else t ∷ firsts_after (t ∷ seen) ts

abbrev pub firsts : List Text → List Text
firsts ts = firsts_after [] ts

-- the number of a text: how many stand before it
abbrev pub number_in : List Text → Text → ℕ
number_in [] t = 0
number_in (u ∷ us) t = if bytes_eq u t then 0 else number_in us t + 1

abbrev pub entry_text : List Text → Entry → List ℕ
entry_text texts e = natural e.input.node ++ items (λ (t : Text). natural (number_in texts t)) e.input.texts ++ natural (number_in texts e.outcome)

abbrev pub cache_text : List Entry → List ℕ
cache_text es = HEADER ++ items text (firsts (mentions es)) ++ items (entry_text (firsts (mentions es))) es

-- the caches that have a text
abbrev pub IsCacheValue : List Entry → Type 0
IsCacheValue es = AreDistinct es × AllByRecursion (λ (e : Entry). e.input.node < 2 ^ 8) es

abbrev pub CacheSpelled : List Entry → List ℕ → Type 0
CacheSpelled es bytes = IsCacheValue es × (bytes ≡ cache_text es)

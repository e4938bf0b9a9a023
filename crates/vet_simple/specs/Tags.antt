-- Tags of fields as pairs of keys and values.
use Rattle.std.specs.Prelude.{ℕ, ◌==◌, ◌&&◌, not, nat_le, Bool, true, false, if◌then◌else◌, List, [], ◌∷◌, ◌++◌, Option, Some, None}
use Rattle.std.specs.List.{fold}
use Rattle.go_tree.specs.Escapes.{escapes_well, inner}
use Rattle.vet_simple.specs.declared.tags.Pair.{Pair}
use Rattle.vet_simple.specs.declared.tags.Stage.{Stage}
use Rattle.vet_simple.specs.declared.tags.Stage.TheVariants as s

-- ---- reading

-- the key and the value so far, and the pairs before them
pub record ReadingOf : Type 0 where
  pub stage : Stage
  pub key : List ℕ
  pub value : List ℕ
  pub pairs : List Pair

-- a byte of a key: no control character, space, quote or colon
abbrev pub is_key_byte : ℕ → Bool
is_key_byte b = not (nat_le b 32) && (not (b == 34) && (not (b == 58) && not (b == 127)))

abbrev pub at_stage : ReadingOf → Stage → ReadingOf
at_stage r stage = record { stage = stage; key = r.key; value = r.value; pairs = r.pairs }

abbrev pub with_key : ReadingOf → List ℕ → ReadingOf
with_key r key = record { stage = s.InKey; key = key; value = r.value; pairs = r.pairs }

abbrev pub with_value : ReadingOf → Stage → List ℕ → ReadingOf
with_value r stage value = record { stage = stage; key = r.key; value = value; pairs = r.pairs }

-- the pair is whole
abbrev pub paired : ReadingOf → ReadingOf
paired r = record { stage = s.Closed; key = r.key; value = r.value; pairs = r.pairs ++ record { key = r.key; value = r.value } ∷ [] }

-- a value is closed: its escapes have to be good
abbrev pub closing : ReadingOf → List ℕ → ReadingOf
closing r value = if escapes_well 34 (inner value) then paired (with_value r s.Wrong value) else with_value r s.Wrong value

abbrev pub between : ReadingOf → ℕ → ReadingOf
between r b = if b == 32 then r else (if is_key_byte b then with_key r (b ∷ []) else at_stage r s.Wrong)

abbrev pub in_key : ReadingOf → ℕ → ReadingOf
in_key r b = if b == 58 then at_stage r s.Quote else (if is_key_byte b then with_key r (r.key ++ b ∷ []) else at_stage r s.Wrong)

abbrev pub at_quote : ReadingOf → ℕ → ReadingOf
at_quote r b = if b == 34 then with_value r s.InValue (b ∷ []) else at_stage r s.Wrong

abbrev pub in_value : ReadingOf → ℕ → ReadingOf
in_value r b =
    if b == 34 then closing r (r.value ++ b ∷ [])
    else (if b == 92 then with_value r s.Escaped (r.value ++ b ∷ [])
    else (if b == 10 then at_stage r s.Wrong else with_value r s.InValue (r.value ++ b ∷ [])))

abbrev pub behind_pair : ReadingOf → ℕ → ReadingOf
behind_pair r b = if b == 32 then at_stage r s.Between else at_stage r s.Wrong

abbrev pub step_at : Stage → ReadingOf → ℕ → ReadingOf
step_at s.Between r b = between r b
step_at s.InKey r b = in_key r b
step_at s.Quote r b = at_quote r b
step_at s.InValue r b = in_value r b
step_at s.Escaped r b = with_value r s.InValue (r.value ++ b ∷ [])
step_at s.Closed r b = behind_pair r b
step_at s.Wrong r b = r

abbrev pub step : ReadingOf → ℕ → ReadingOf
step r b = step_at r.stage r b

abbrev pub nothing_read : ReadingOf
nothing_read = record { stage = s.Between; key = []; value = []; pairs = [] }

abbrev pub ends : Stage → Bool
ends s.Between = true
ends s.Closed = true
ends _ = false

abbrev pub pairs_in : ReadingOf → Option (List Pair)
pairs_in r = if ends r.stage then Some r.pairs else None

-- The pairs `key:"value"` that a tag is, with at least one space between two and any at the ends.
abbrev pub pairs_of : List ℕ → Option (List Pair)
pairs_of tag = pairs_in (fold step nothing_read tag)

-- The text of a table of facts: a list of names and facts, in order of the names.
use Rattle.std.specs.Prelude.{◌≡◌, ℕ, Bool, List, ◌++◌, length, Option, Some, None, ◌==◌, if◌then◌else◌}
use Rattle.std.specs.Str.{IsUtf8, is_utf8}
use Rattle.gv_bytes.specs.Spelling.{text, items, IsText, AreItems}
use Rattle.gv_bytes.specs.Reading.{◌>>=◌, text_at, items_at}
use Rattle.fact_codec.specs.Tables.{AreInOrder, names_rise}

-- a name, and its fact
abbrev pub entry : {F : Type 0} → (F → List ℕ) → List ℕ × F → List ℕ
entry spelling e = text e.0 ++ spelling e.1

-- a name is UTF-8
abbrev pub IsName : List ℕ → Type 0
IsName bytes = IsText bytes × IsUtf8 bytes

abbrev pub IsEntry : {F : Type 0} → List ℕ × F → Type 0
IsEntry e = IsName e.0 × Unit {0}

-- the bytes are the text of the table
pub record AreFacts {F : Type 0} (spelling : F → List ℕ) (table : List (List ℕ × F)) (bytes : List ℕ) : Type 0 where
  pub value : AreItems IsEntry table
  pub order : AreInOrder table
  pub whole : bytes ≡ items (entry spelling) table

-- ---- reading from left to right

abbrev pub Reader : Type 0 → Type 0
Reader A = List ℕ → Option (A × List ℕ)

-- one after another
abbrev pub seq_at : {A B : Type 0} → Reader A → Reader B → Reader (A × B)
seq_at a b bytes = a bytes >>= λ x. b x.1 >>= λ y. Some ((x.0, y.0), y.1)

-- of another value
abbrev pub via_at : {A B : Type 0} → (A → B) → Reader A → Reader B
via_at to a bytes = a bytes >>= λ x. Some (to x.0, x.1)

-- kept by a test
abbrev pub kept_at : {A : Type 0} → (A → Bool) → Reader A → Reader A
kept_at test a bytes = a bytes >>= λ x. if test x.0 then Some x else None

-- all of the bytes
abbrev pub whole_at : {A : Type 0} → Reader A → List ℕ → Option A
whole_at a bytes = a bytes >>= λ x. if length x.1 == 0 then Some x.0 else None

-- these bytes, where they are UTF-8
abbrev pub utf8_of : List ℕ → Option (List ℕ)
utf8_of bytes = if is_utf8 bytes then Some bytes else None

-- a name is a text that is UTF-8
unfoldable pub name_at : Reader (List ℕ)
name_at bytes = do
  t ← text_at bytes
  name ← utf8_of t.0
  Some (name, t.1)

unfoldable pub entry_at : {F : Type 0} → Reader F → Reader (List ℕ × F)
entry_at fact_at bytes = seq_at name_at fact_at bytes

unfoldable pub table_in : {F : Type 0} → Reader F → List ℕ → Option (List (List ℕ × F))
table_in fact_at bytes = whole_at (kept_at names_rise (items_at (entry_at fact_at))) bytes

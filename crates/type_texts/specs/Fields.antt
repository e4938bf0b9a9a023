-- The fields of an export text: names, truths, directions, kinds and constants, each with its text and its reader. The
-- clauses of the public calls speak of texts alone; the readers say what the parts of the code answer.
use Rattle.std.specs.Prelude.{ℕ, ◌≤◌, ◌-◌, ◌^◌, Bool, true, false, List, [], ◌∷◌, length, Option, Some, None, nat_lt, ◌==◌, if◌then◌else◌}
use Rattle.std.specs.Str.{IsUtf8, is_utf8}
use Rattle.gv_base.specs.declared.constant.Kind.{Kind}
use Rattle.gv_base.specs.declared.constant.Const.{Const}
use Rattle.gv_base.specs.declared.constant.Const.TheVariants as const
use Rattle.gv_base.specs.Kinds.{kind_numbered}
use Rattle.gv_bytes.specs.Spelling.{natural, number, text, IsInt128, IsText}
use Rattle.gv_bytes.specs.Reading.{◌>>=◌, natural_at, number_at, text_at}
use Rattle.type_model.specs.declared.term.Dir.{Dir}
use Rattle.type_model.specs.declared.term.Dir.TheVariants as dir
use Rattle.type_texts.specs.Readers.{Reader, via_at}

-- 1 for the truth that holds
abbrev pub truth_of : Bool → ℕ
truth_of true = 1
truth_of false = 0

-- 0 for both directions, 1 to send, 2 to receive
abbrev pub dir_number : Dir → ℕ
dir_number dir.Both = 0
dir_number dir.Send = 1
dir_number dir.Receive = 2

abbrev pub dir_numbered : ℕ → Dir
dir_numbered n = if n == 0 then dir.Both else if n == 1 then dir.Send else dir.Receive

-- A value: q and 0 or 1, n and a number, or x and a text.
unfoldable pub value : Const → List ℕ
value (const.Truth b) = 113 ∷ natural (truth_of b)
value (const.Int n) = 110 ∷ number n
value (const.Text t) = 120 ∷ text t

-- the values of this size
abbrev pub IsConst : Const → Type 0
IsConst (const.Truth b) = Unit {0}
IsConst (const.Int n) = IsInt128 n
IsConst (const.Text t) = length t ≤ 65536

-- a name is UTF-8
abbrev pub IsName : List ℕ → Type 0
IsName bytes = IsText bytes × IsUtf8 bytes

-- ---- readers

-- these bytes, where they are UTF-8
abbrev pub utf8_of : List ℕ → Option (List ℕ)
utf8_of bytes = if is_utf8 bytes then Some bytes else None

unfoldable pub name_at : Reader (List ℕ)
name_at bytes = do
  t ← text_at bytes
  name ← utf8_of t.0
  Some (name, t.1)

abbrev pub bit_at : Reader Bool
bit_at = via_at (λ n. n == 1) (natural_at 1)

abbrev pub dir_at : Reader Dir
dir_at = via_at dir_numbered (natural_at 2)

abbrev pub kind_at : Reader Kind
kind_at = via_at kind_numbered (natural_at 17)

-- a count, or a length
abbrev pub size_at : Reader ℕ
size_at = natural_at (2 ^ 64 - 1)

abbrev pub truth_at : Reader Const
truth_at = via_at const.Truth bit_at

abbrev pub int_at : Reader Const
int_at = via_at const.Int number_at

unfoldable pub const_text_at : Reader Const
const_text_at bytes = do
  t ← text_at bytes
  if nat_lt 65536 (length t.0) then None else Some (const.Text t.0, t.1)

unfoldable pub value_at : Reader Const
value_at [] = None
value_at (c ∷ rest) = if c == 113 then truth_at rest else if c == 110 then int_at rest else if c == 120 then const_text_at rest else None

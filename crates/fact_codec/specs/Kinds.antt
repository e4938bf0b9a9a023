-- The kinds of facts, and how their facts are spelled and read.
use Rattle.std.specs.Prelude.{ℕ, Bool, true, false, ◌+◌, ◌==◌, List, [], ◌∷◌, ◌++◌, map, codes, slice_index_or, Option, Some, None, sum_by, if◌then◌else◌}
use Rattle.gv_bytes.specs.Spelling.{natural}
use Rattle.gv_bytes.specs.Reading.{◌>>=◌, natural_at}
use Rattle.fact_codec.specs.declared.wraps.WrapKind.{WrapKind}
use Rattle.fact_codec.specs.declared.wraps.WrapKind.TheVariants as kind
use Rattle.fact_codec.specs.declared.wraps.Wraps.{Wraps}
use Rattle.fact_codec.specs.declared.wraps.Wraps.TheVariants as wraps

-- the one fact of its kind, where this byte stands in front
abbrev pub byte_at : {A : Type 0} → ℕ → A → List ℕ → Option (A × List ℕ)
byte_at b fact [] = None
byte_at b fact (c ∷ rest) = if c == b then Some (fact, rest) else None

-- each kind's number, to be added
abbrev pub bit_of : WrapKind → ℕ
bit_of kind.Print = 1
bit_of kind.Printf = 2
bit_of kind.Errorf = 4

abbrev pub kind_name : WrapKind → List ℕ
kind_name kind.Print = codes "print"
kind_name kind.Printf = codes "printf"
kind_name kind.Errorf = codes "errorf"

-- the kinds of a function, in the order print, printf, errorf
abbrev pub kinds_of : Wraps → List WrapKind
kinds_of wraps.Print = kind.Print ∷ []
kinds_of wraps.Printf = kind.Printf ∷ []
kinds_of wraps.PrintPrintf = kind.Print ∷ kind.Printf ∷ []
kinds_of wraps.Errorf = kind.Errorf ∷ []
kinds_of wraps.PrintErrorf = kind.Print ∷ kind.Errorf ∷ []
kinds_of wraps.PrintfErrorf = kind.Printf ∷ kind.Errorf ∷ []
kinds_of wraps.Each = kind.Print ∷ kind.Printf ∷ kind.Errorf ∷ []

-- the numbers of the kinds, added
abbrev pub added : List WrapKind → ℕ
added [] = 0
added (k ∷ ks) = bit_of k + added ks

-- from 1 to 7
abbrev pub wraps_number : Wraps → ℕ
wraps_number w = added (kinds_of w)

-- the kinds of a number, where it is one of 1 to 7
abbrev pub wraps_numbered : ℕ → Option Wraps
wraps_numbered n =
    slice_index_or
    (None ∷ Some wraps.Print ∷ Some wraps.Printf ∷ Some wraps.PrintPrintf ∷ Some wraps.Errorf ∷ Some wraps.PrintErrorf ∷ Some wraps.PrintfErrorf ∷ Some wraps.Each ∷ [])
    n None

abbrev pub has_one : List WrapKind → WrapKind → Bool
has_one [] sought = false
has_one (k ∷ ks) sought = if bit_of k == bit_of sought then true else has_one ks sought

-- the kind is among them
abbrev pub has_kind : Wraps → WrapKind → Bool
has_kind w sought = has_one (kinds_of w) sought

-- one kind alone
abbrev pub of_kind : WrapKind → Wraps
of_kind kind.Print = wraps.Print
of_kind kind.Printf = wraps.Printf
of_kind kind.Errorf = wraps.Errorf

-- texts, joined by `+`
abbrev pub joined : List (List ℕ) → List ℕ
joined [] = []
joined (x ∷ []) = x
joined (x ∷ y ∷ ys) = x ++ (43 ∷ joined (y ∷ ys))

-- the names of the kinds in their order, joined by `+`
abbrev pub wraps_text : Wraps → List ℕ
wraps_text w = joined (map kind_name (kinds_of w))

-- The fact is spelled as its number.
unfoldable pub wraps_spelling : Wraps → List ℕ
wraps_spelling w = natural (wraps_number w)

unfoldable pub wraps_at : List ℕ → Option (Wraps × List ℕ)
wraps_at bytes = do
  n ← natural_at 7 bytes
  w ← wraps_numbered n.0
  Some (w, n.1)

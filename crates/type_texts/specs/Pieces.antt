-- The pieces of types: the text of each, what it wants behind it, and the reader of rows. What these functions say of the reader
-- serves the proofs; the clauses of the public calls speak of texts alone.
use Rattle.std.specs.Prelude.{◌≡◌, ℕ, zero, suc, ◌<◌, ◌^◌, Bool, false, List, [], ◌∷◌, ◌++◌, Option, Some, None, ◌==◌, if◌then◌else◌}
use Rattle.std.specs.List.{flat_map}
use Rattle.gv_base.specs.Kinds.{kind_number}
use Rattle.gv_bytes.specs.Spelling.{natural, text, IsText}
use Rattle.gv_bytes.specs.Reading.{◌>>=◌, text_at}
use Rattle.type_texts.specs.declared.pieces.Piece.{Piece}
use Rattle.type_texts.specs.declared.pieces.Piece.TheVariants as piece
use Rattle.type_texts.specs.declared.pieces.Sort.{Sort}
use Rattle.type_texts.specs.declared.pieces.Sort.TheVariants as sort
use Rattle.type_texts.specs.declared.pieces.Run.{Run}
use Rattle.type_texts.specs.Fields.{truth_of, dir_number, IsName, name_at, bit_at, dir_at, kind_at, size_at}
use Rattle.type_texts.specs.Readers.{Reader, seq_at, via_at, tagged_at}

abbrev pub copies : {A : Type 0} → ℕ → A → List A
copies zero x = []
copies (suc n) x = x ∷ copies n x

-- ---- the table of pieces: a row for each

abbrev pub sort_of : Piece → Sort
sort_of (piece.Basic k) = sort.OneType
sort_of (piece.Defined name) = sort.OneType
sort_of piece.Pointer = sort.OneType
sort_of piece.Slice = sort.OneType
sort_of (piece.Array n) = sort.OneType
sort_of piece.Map = sort.OneType
sort_of (piece.Chan direction) = sort.OneType
sort_of (piece.Func variadic) = sort.OneType
sort_of (piece.List n) = sort.SomeTypes
sort_of (piece.Struct n) = sort.OneType
sort_of (piece.Field name owner embedded) = sort.OneField
sort_of (piece.Tag tag) = sort.OneTag
sort_of (piece.Interface n) = sort.OneType
sort_of (piece.Method name owner pointer) = sort.OneMethod
sort_of (piece.Signature variadic) = sort.OneSignature

abbrev pub wants_of : Piece → List Sort
wants_of (piece.Basic k) = []
wants_of (piece.Defined name) = []
wants_of piece.Pointer = sort.OneType ∷ []
wants_of piece.Slice = sort.OneType ∷ []
wants_of (piece.Array n) = sort.OneType ∷ []
wants_of piece.Map = sort.OneType ∷ sort.OneType ∷ []
wants_of (piece.Chan direction) = sort.OneType ∷ []
wants_of (piece.Func variadic) = sort.SomeTypes ∷ sort.SomeTypes ∷ []
wants_of (piece.List n) = copies n sort.OneType
wants_of (piece.Struct n) = copies n sort.OneField
wants_of (piece.Field name owner embedded) = sort.OneType ∷ sort.OneTag ∷ []
wants_of (piece.Tag tag) = []
wants_of (piece.Interface n) = copies n sort.OneMethod
wants_of (piece.Method name owner pointer) = sort.OneSignature ∷ []
wants_of (piece.Signature variadic) = sort.SomeTypes ∷ sort.SomeTypes ∷ []

unfoldable pub piece_text : Piece → List ℕ
piece_text (piece.Basic k) = 98 ∷ natural (kind_number k)
piece_text (piece.Defined name) = 100 ∷ (text name.package ++ text name.name)
piece_text piece.Pointer = 112 ∷ []
piece_text piece.Slice = 115 ∷ []
piece_text (piece.Array n) = 97 ∷ natural n
piece_text piece.Map = 109 ∷ []
piece_text (piece.Chan direction) = 99 ∷ natural (dir_number direction)
piece_text (piece.Func variadic) = 102 ∷ natural (truth_of variadic)
piece_text (piece.List n) = natural n
piece_text (piece.Struct n) = 116 ∷ natural n
piece_text (piece.Field name owner embedded) = text name ++ (text owner ++ natural (truth_of embedded))
piece_text (piece.Tag tag) = text tag
piece_text (piece.Interface n) = 105 ∷ natural n
piece_text (piece.Method name owner pointer) = text name ++ text owner
piece_text (piece.Signature variadic) = 102 ∷ natural (truth_of variadic)

abbrev pub IsPiece : Piece → Type 0
IsPiece (piece.Basic k) = Unit {0}
IsPiece (piece.Defined name) = (IsName name.package × IsName name.name) × (name.local ≡ 0)
IsPiece piece.Pointer = Unit {0}
IsPiece piece.Slice = Unit {0}
IsPiece (piece.Array n) = n < 2 ^ 64
IsPiece piece.Map = Unit {0}
IsPiece (piece.Chan direction) = Unit {0}
IsPiece (piece.Func variadic) = Unit {0}
IsPiece (piece.List n) = n < 2 ^ 64
IsPiece (piece.Struct n) = n < 2 ^ 64
IsPiece (piece.Field name owner embedded) = IsName name × IsName owner
IsPiece (piece.Tag tag) = IsText tag
IsPiece (piece.Interface n) = n < 2 ^ 64
IsPiece (piece.Method name owner pointer) = (IsName name × IsName owner) × (pointer ≡ false)
IsPiece (piece.Signature variadic) = Unit {0}

abbrev pub IsOfSort : Sort → Piece → Type 0
IsOfSort s p = (sort_of p ≡ s) × IsPiece p

-- ---- reading one piece

abbrev pub defined_piece : List ℕ × List ℕ → Piece
defined_piece x = piece.Defined (record { «package» = x.0; name = x.1; local = 0 })

unfoldable pub defined_at : Reader Piece
defined_at = via_at defined_piece (seq_at name_at name_at)

unfoldable pub basic_at : Reader Piece
basic_at = via_at piece.Basic kind_at

unfoldable pub array_at : Reader Piece
array_at = via_at piece.Array size_at

unfoldable pub chan_at : Reader Piece
chan_at = via_at piece.Chan dir_at

unfoldable pub func_at : Reader Piece
func_at = via_at piece.Func bit_at

unfoldable pub struct_at : Reader Piece
struct_at = via_at piece.Struct size_at

unfoldable pub interface_at : Reader Piece
interface_at = via_at piece.Interface size_at

abbrev pub type_rest_at : ℕ → Reader Piece
type_rest_at c rest =
    if c == 98 then basic_at rest else if c == 100 then defined_at rest else if c == 112 then Some (piece.Pointer, rest)
    else if c == 115 then Some (piece.Slice, rest) else if c == 97 then array_at rest else if c == 109 then Some (piece.Map, rest)
    else if c == 99 then chan_at rest else if c == 102 then func_at rest else if c == 116 then struct_at rest
    else if c == 105 then interface_at rest else None

unfoldable pub type_piece_at : Reader Piece
type_piece_at = tagged_at type_rest_at

unfoldable pub list_at : Reader Piece
list_at = via_at piece.List size_at

abbrev pub field_piece : List ℕ × (List ℕ × Bool) → Piece
field_piece x = piece.Field x.0 x.1.0 x.1.1

unfoldable pub field_at : Reader Piece
field_at = via_at field_piece (seq_at name_at (seq_at name_at bit_at))

unfoldable pub tag_at : Reader Piece
tag_at = via_at piece.Tag text_at

abbrev pub method_piece : List ℕ × List ℕ → Piece
method_piece x = piece.Method x.0 x.1 false

unfoldable pub method_at : Reader Piece
method_at = via_at method_piece (seq_at name_at name_at)

unfoldable pub variadic_at : Reader Piece
variadic_at = via_at piece.Signature bit_at

abbrev pub signature_rest_at : ℕ → Reader Piece
signature_rest_at c rest = if c == 102 then variadic_at rest else None

unfoldable pub signature_at : Reader Piece
signature_at = tagged_at signature_rest_at

abbrev pub piece_at : Sort → Reader Piece
piece_at sort.OneType bytes = type_piece_at bytes
piece_at sort.SomeTypes bytes = list_at bytes
piece_at sort.OneField bytes = field_at bytes
piece_at sort.OneTag bytes = tag_at bytes
piece_at sort.OneMethod bytes = method_at bytes
piece_at sort.OneSignature bytes = signature_at bytes

-- ---- reading a row of pieces: the first wanted, then what it wants, then the rest; each takes a byte at least, and so
-- there are at most as many as bytes

unfoldable pub pieces_at : ℕ → List Sort → List ℕ → Option (List Piece × List ℕ)
pieces_at n [] bytes = Some ([], bytes)
pieces_at zero (s ∷ wants) bytes = None
pieces_at (suc n) (s ∷ wants) bytes = do
  first ← piece_at s bytes
  more ← pieces_at n (wants_of first.0 ++ wants) first.1
  Some (first.0 ∷ more.0, more.1)

abbrev pub pieces_text : List Piece → List ℕ
pieces_text ps = flat_map piece_text ps

-- the row has exactly the wanted pieces, each with what it wants behind it
abbrev pub Serves : List Sort → List Piece → Type 0
Serves [] [] = Unit {0}
Serves [] (p ∷ ps) = ⊥
Serves (s ∷ wants) [] = ⊥
Serves (s ∷ wants) (p ∷ ps) = IsOfSort s p × Serves (wants_of p ++ wants) ps

-- what the loop has wanted: the runs of its stack, the last one first
abbrev pub wanted : List Run → List Sort
wanted [] = []
wanted (r ∷ runs) = wanted runs ++ copies r.count r.sort

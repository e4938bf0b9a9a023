-- The packages that an interface's text mentions, gathered while the text is gone through: no type is made of it. What these functions say
-- serves the proofs; the clause of the public call speaks of texts alone.
use Rattle.std.specs.Prelude.{ℕ, zero, suc, List, [], ◌∷◌, ◌++◌, length, Option, Some, None, ◌==◌, if◌then◌else◌}
use Rattle.std.specs.List.{flat_map}
use Rattle.std.specs.Str.{bytes_eq}
use Rattle.gv_bytes.specs.Reading.{◌>>=◌}
use Rattle.type_texts.specs.declared.pieces.Piece.{Piece}
use Rattle.type_texts.specs.declared.pieces.Piece.TheVariants as piece
use Rattle.type_texts.specs.declared.pieces.Sort.{Sort}
use Rattle.type_texts.specs.declared.pieces.Sort.TheVariants as sort
use Rattle.type_texts.specs.Fields.{name_at, bit_at, size_at, value_at}
use Rattle.type_texts.specs.Readers.{via_at}
use Rattle.type_texts.specs.Pieces.{copies, wants_of, piece_at}
use Rattle.export_text.specs.declared.fronts.Front.{Front}
use Rattle.export_text.specs.declared.fronts.Front.TheVariants as front

-- the package of a defined type, unless it is this one or the empty one of predeclared types
abbrev pub mention_of : List ℕ → List ℕ → List (List ℕ)
mention_of path owner = if bytes_eq owner path then [] else if length owner == 0 then [] else owner ∷ []

-- ---- a piece, as far as it counts: what it wants behind it, and the package of a defined type

abbrev pub owner_of : Piece → List (List ℕ)
owner_of (piece.Basic k) = []
owner_of (piece.Defined name) = name.package ∷ []
owner_of piece.Pointer = []
owner_of piece.Slice = []
owner_of (piece.Array n) = []
owner_of piece.Map = []
owner_of (piece.Chan direction) = []
owner_of (piece.Func variadic) = []
owner_of (piece.List n) = []
owner_of (piece.Struct n) = []
owner_of (piece.Field name owner embedded) = []
owner_of (piece.Tag tag) = []
owner_of (piece.Interface n) = []
owner_of (piece.Method name owner pointer) = []
owner_of (piece.Signature variadic) = []

abbrev pub seen : Piece → List Sort × List (List ℕ)
seen p = (wants_of p, owner_of p)

abbrev pub front_wants : Front → List Sort
front_wants front.Leaf = []
front_wants (front.Named owner) = []
front_wants front.Over = sort.OneType ∷ []
front_wants front.OverTwo = sort.OneType ∷ sort.OneType ∷ []
front_wants front.Lists = sort.SomeTypes ∷ sort.SomeTypes ∷ []
front_wants (front.Types n) = copies n sort.OneType
front_wants (front.Fields n) = copies n sort.OneField
front_wants front.Field = sort.OneType ∷ sort.OneTag ∷ []
front_wants (front.Methods n) = copies n sort.OneMethod
front_wants front.Method = sort.OneSignature ∷ []

abbrev pub front_owner : Front → List (List ℕ)
front_owner front.Leaf = []
front_owner (front.Named owner) = owner.now ∷ []
front_owner front.Over = []
front_owner front.OverTwo = []
front_owner front.Lists = []
front_owner (front.Types n) = []
front_owner (front.Fields n) = []
front_owner front.Field = []
front_owner (front.Methods n) = []
front_owner front.Method = []

abbrev pub shown : Front → List Sort × List (List ℕ)
shown f = (front_wants f, front_owner f)

-- ---- what a part of the text adds to the packages so far, and the bytes behind it

-- a row of pieces: the first wanted, then what it wants, then the rest
unfoldable pub row_skimmed : List ℕ → ℕ → List Sort → List (List ℕ) → List ℕ → Option (List (List ℕ) × List ℕ)
row_skimmed path n [] out bytes = Some (out, bytes)
row_skimmed path zero (s ∷ wants) out bytes = None
row_skimmed path (suc n) (s ∷ wants) out bytes = do
  first ← via_at seen (piece_at s) bytes
  row_skimmed path n (first.0.0 ++ wants) (out ++ flat_map (mention_of path) first.0.1) first.1

unfoldable pub type_skimmed : List ℕ → List (List ℕ) → List ℕ → Option (List (List ℕ) × List ℕ)
type_skimmed path out bytes = row_skimmed path (length bytes) (sort.OneType ∷ []) out bytes

-- so many of them, one after the other
unfoldable pub each_skimmed : (List (List ℕ) → List ℕ → Option (List (List ℕ) × List ℕ)) → ℕ → List (List ℕ) → List ℕ → Option (List (List ℕ) × List ℕ)
each_skimmed one zero out bytes = Some (out, bytes)
each_skimmed one (suc n) out bytes = do
  first ← one out bytes
  each_skimmed one n first.0 first.1

unfoldable pub items_skimmed : (List (List ℕ) → List ℕ → Option (List (List ℕ) × List ℕ)) → List (List ℕ) → List ℕ → Option (List (List ℕ) × List ℕ)
items_skimmed one out bytes = do
  n ← size_at bytes
  each_skimmed one n.0 out n.1

unfoldable pub constant_skimmed : List ℕ → List (List ℕ) → List ℕ → Option (List (List ℕ) × List ℕ)
constant_skimmed path out bytes = do
  t ← type_skimmed path out bytes
  v ← value_at t.1
  Some (t.0, v.1)

abbrev pub form_rest_skimmed : List ℕ → List (List ℕ) → ℕ → List ℕ → Option (List (List ℕ) × List ℕ)
form_rest_skimmed path out c rest =
    if c == 107 then constant_skimmed path out rest else if c == 118 then type_skimmed path out rest else if c == 102 then type_skimmed path out rest
    else if c == 116 then Some (out, rest) else if c == 97 then type_skimmed path out rest else None

unfoldable pub form_skimmed : List ℕ → List (List ℕ) → List ℕ → Option (List (List ℕ) × List ℕ)
form_skimmed path out [] = None
form_skimmed path out (c ∷ rest) = form_rest_skimmed path out c rest

unfoldable pub object_skimmed : List ℕ → List (List ℕ) → List ℕ → Option (List (List ℕ) × List ℕ)
object_skimmed path out bytes = do
  name ← name_at bytes
  form_skimmed path out name.1

unfoldable pub method_skimmed : List ℕ → List (List ℕ) → List ℕ → Option (List (List ℕ) × List ℕ)
method_skimmed path out bytes = do
  name ← name_at bytes
  owner ← name_at name.1
  pointer ← bit_at owner.1
  type_skimmed path out pointer.1

unfoldable pub defined_skimmed : List ℕ → List (List ℕ) → List ℕ → Option (List (List ℕ) × List ℕ)
defined_skimmed path out bytes = do
  name ← name_at bytes
  under ← type_skimmed path out name.1
  items_skimmed (method_skimmed path) under.0 under.1

-- the packages that the text mentions, as they come
unfoldable pub face_skimmed : List ℕ → Option (List (List ℕ))
face_skimmed bytes = do
  path ← name_at bytes
  name ← name_at path.1
  objects ← items_skimmed (object_skimmed path.0) [] name.1
  types ← items_skimmed (defined_skimmed path.0) objects.0 objects.1
  Some types.0

-- What a row of pieces says of its type: how many nodes it has, and that it can be spelled where each piece can.
use Rattle.std.proofs.Common.{◌≡◌, ℕ, ◌+◌, ◌<◌, ◌≤◌, ◌^◌, List, [], ◌∷◌, ◌++◌, length, get_or, take, flat_map, append_assoc, refl, sym, ap, subst, ◌∙◌, arith}
use Rattle.std.specs.List.{AllByRecursion}
use Rattle.gv_bytes.specs.declared.unread.Unread.{Unread}
use Rattle.gv_bytes.specs.declared.unread.Unread.TheVariants as unread
use Rattle.std.proofs.lemmas.List.{append-nil, take_more, flat_map_more}
use Rattle.type_model.specs.GoTypes.{GoType, GoSignature, GoTypes, GoFields, GoMethods, BasicType, DefinedType, PointerTo, SliceOf, ArrayOf, MapOf, ChanOf, FuncOf, StructOf, InterfaceOf, From, NoType, AndType, NoField, AndField, NoMethod, AndMethod, nodes, signature_nodes, type_nodes, field_nodes, method_nodes}
use Rattle.type_model.specs.GoTypes.{AreBelow, SignatureBelow, types_at, signature_of}
use Rattle.type_model.specs.declared.term.TypeId.{TypeId}
use Rattle.type_model.specs.declared.term.Signature.{Signature}
use Rattle.type_model.specs.declared.table.TypeTable.{TypeTable}
use Rattle.type_model.specs.Tables.{IsTable, types_in, count}
use Rattle.type_model.proofs.FormedLaws.{table_formed}
use Rattle.std.proofs.lemmas.List.Elements.{All-from_recursion, All-head, All-tail}
use Rattle.type_model.specs.Identity.{IsFormed, IsFormedSignature, AreFormedTypes, AreFormedFields, AreFormedMethods}
use Rattle.type_texts.specs.declared.pieces.Piece.{Piece}
use Rattle.type_texts.specs.declared.pieces.Piece.TheVariants as piece
use Rattle.type_texts.specs.Texts.{type_count, Fits, SignatureFits, TypesFit, FieldsFit, MethodsFit, IsType}
use Rattle.type_texts.specs.Answers.{Denies}
use Rattle.type_texts.specs.Rows.{type_row, signature_row, types_row, fields_row, methods_row}
use Rattle.type_texts.specs.Pieces.{IsPiece}
use Rattle.type_texts.specs.declared.type_rows.Todo.{Todo}
use Rattle.type_texts.specs.declared.type_rows.Todo.TheVariants as todo
use Rattle.type_texts.specs.Pending.{pending, node_of, todo_nodes, nodes_in}
use Rattle.type_texts.proofs.PendingLaws.{pending_last}
use Rattle.type_texts.proofs.OrderLaws.{sorted_rise}

-- ---- nodes

pub nodes_append : (ps qs : List Piece) → nodes_in (ps ++ qs) ≡ nodes_in ps + nodes_in qs
nodes_append [] qs = omega arith
nodes_append (p ∷ ps) qs = omega (arith, nodes_append ps qs)

mutual
  pub row_nodes : (t : GoType) (rest : List Piece) → nodes_in (type_row t rest) ≡ nodes t + nodes_in rest
  row_nodes (BasicType k) rest = omega arith
  row_nodes (DefinedType name) rest = omega arith
  row_nodes (PointerTo of) rest = omega (arith, row_nodes of rest)
  row_nodes (SliceOf of) rest = omega (arith, row_nodes of rest)
  row_nodes (ArrayOf size of) rest = omega (arith, row_nodes of rest)
  row_nodes (MapOf key of) rest = omega (arith, row_nodes key (type_row of rest), row_nodes of rest)
  row_nodes (ChanOf direction of) rest = omega (arith, row_nodes of rest)
  row_nodes (FuncOf of) rest = signature_count of rest
  row_nodes (StructOf fields) rest = omega (arith, fields_count fields rest)
  row_nodes (InterfaceOf methods) rest = omega (arith, methods_count methods rest)

  signature_count : (s : GoSignature) (rest : List Piece) → 1 + nodes_in (signature_row s rest) ≡ signature_nodes s + nodes_in rest
  signature_count (From params results variadic) rest =
      omega (arith, types_count params (piece.List (type_count results) ∷ types_row results rest), types_count results rest)

  types_count : (ts : GoTypes) (rest : List Piece) → nodes_in (types_row ts rest) ≡ type_nodes ts + nodes_in rest
  types_count NoType rest = omega arith
  types_count (AndType of types) rest = omega (arith, row_nodes of (types_row types rest), types_count types rest)

  fields_count : (fs : GoFields) (rest : List Piece) → nodes_in (fields_row fs rest) ≡ field_nodes fs + nodes_in rest
  fields_count NoField rest = omega arith
  fields_count (AndField name owner embedded of tag fields) rest = omega (arith, row_nodes of (piece.Tag tag ∷ fields_row fields rest), fields_count fields rest)

  methods_count : (ms : GoMethods) (rest : List Piece) → nodes_in (methods_row ms rest) ≡ method_nodes ms + nodes_in rest
  methods_count NoMethod rest = omega arith
  methods_count (AndMethod name owner pointer of methods) rest = omega (arith, signature_count of (methods_row methods rest), methods_count methods rest)

-- ---- pieces that can be spelled

abbrev pub ArePieces : List Piece → Type 0
ArePieces ps = AllByRecursion IsPiece ps

mutual
  pub fits_of : (t : GoType) (rest : List Piece) → IsFormed t → ArePieces (type_row t rest) → Fits t × ArePieces rest
  fits_of (BasicType k) rest formed h = (tt, h.1)
  fits_of (DefinedType name) rest formed h = (h.0, h.1)
  fits_of (PointerTo of) rest formed h = fits_of of rest formed h.1
  fits_of (SliceOf of) rest formed h = fits_of of rest formed h.1
  fits_of (ArrayOf size of) rest formed h = let r = fits_of of rest formed h.1 in ((h.0, r.0), r.1)
  fits_of (MapOf key of) rest formed h =
      let k = fits_of key (type_row of rest) formed.0 h.1 in
      let r = fits_of of rest formed.1 k.1 in
      ((k.0, r.0), r.1)
  fits_of (ChanOf direction of) rest formed h = fits_of of rest formed h.1
  fits_of (FuncOf of) rest formed h = signature_fits of rest formed h.1
  fits_of (StructOf fields) rest formed h = let r = fields_fit fields rest formed h.1 in ((h.0, r.0), r.1)
  fits_of (InterfaceOf methods) rest formed h =
      let r = methods_fit methods rest formed.1 h.1 in
      (((h.0, sorted_rise methods formed.0), r.0), r.1)

  signature_fits : (s : GoSignature) (rest : List Piece) → IsFormedSignature s → ArePieces (signature_row s rest) → SignatureFits s × ArePieces rest
  signature_fits (From params results variadic) rest formed h =
      let p = types_fit params (piece.List (type_count results) ∷ types_row results rest) formed.0 h.1 in
      let r = types_fit results rest formed.1 p.1.1 in
      (((h.0, p.0), (p.1.0, r.0)), r.1)

  types_fit : (ts : GoTypes) (rest : List Piece) → AreFormedTypes ts → ArePieces (types_row ts rest) → TypesFit ts × ArePieces rest
  types_fit NoType rest formed h = (tt, h)
  types_fit (AndType of types) rest formed h =
      let t = fits_of of (types_row types rest) formed.0 h in
      let r = types_fit types rest formed.1 t.1 in
      ((t.0, r.0), r.1)

  fields_fit : (fs : GoFields) (rest : List Piece) → AreFormedFields fs → ArePieces (fields_row fs rest) → FieldsFit fs × ArePieces rest
  fields_fit NoField rest formed h = (tt, h)
  fields_fit (AndField name owner embedded of tag fields) rest formed h =
      let t = fits_of of (piece.Tag tag ∷ fields_row fields rest) formed.0 h.1 in
      let r = fields_fit fields rest formed.1 t.1.1 in
      ((h.0, t.0, t.1.0, r.0), r.1)

  methods_fit : (ms : GoMethods) (rest : List Piece) → AreFormedMethods ms → ArePieces (methods_row ms rest) → MethodsFit ms × ArePieces rest
  methods_fit NoMethod rest formed h = (tt, h)
  methods_fit (AndMethod name owner pointer of methods) rest formed h =
      let s = signature_fits of (methods_row methods rest) formed.0 h.1.1 in
      let r = methods_fit methods rest formed.1 s.1 in
      ((h.0, s.0, r.0), r.1)

mutual
  pub pieces_of : (t : GoType) (rest : List Piece) → Fits t → ArePieces rest → ArePieces (type_row t rest)
  pieces_of (BasicType k) rest fits h = (tt, h)
  pieces_of (DefinedType name) rest fits h = (fits, h)
  pieces_of (PointerTo of) rest fits h = (tt, pieces_of of rest fits h)
  pieces_of (SliceOf of) rest fits h = (tt, pieces_of of rest fits h)
  pieces_of (ArrayOf size of) rest fits h = (fits.0, pieces_of of rest fits.1 h)
  pieces_of (MapOf key of) rest fits h = (tt, pieces_of key (type_row of rest) fits.0 (pieces_of of rest fits.1 h))
  pieces_of (ChanOf direction of) rest fits h = (tt, pieces_of of rest fits h)
  pieces_of (FuncOf of) rest fits h = (tt, signature_pieces of rest fits h)
  pieces_of (StructOf fields) rest fits h = (fits.0, field_pieces fields rest fits.1 h)
  pieces_of (InterfaceOf methods) rest fits h = (fits.0.0, method_pieces methods rest fits.1 h)

  signature_pieces : (s : GoSignature) (rest : List Piece) → SignatureFits s → ArePieces rest → ArePieces (signature_row s rest)
  signature_pieces (From params results variadic) rest fits h =
      (fits.0.0, type_pieces params (piece.List (type_count results) ∷ types_row results rest) fits.0.1 (fits.1.0, type_pieces results rest fits.1.1 h))

  type_pieces : (ts : GoTypes) (rest : List Piece) → TypesFit ts → ArePieces rest → ArePieces (types_row ts rest)
  type_pieces NoType rest fits h = h
  type_pieces (AndType of types) rest fits h = pieces_of of (types_row types rest) fits.0 (type_pieces types rest fits.1 h)

  field_pieces : (fs : GoFields) (rest : List Piece) → FieldsFit fs → ArePieces rest → ArePieces (fields_row fs rest)
  field_pieces NoField rest fits h = h
  field_pieces (AndField name owner embedded of tag fields) rest fits h =
      (fits.0, pieces_of of (piece.Tag tag ∷ fields_row fields rest) fits.1 (fits.2, field_pieces fields rest fits.3 h))

  method_pieces : (ms : GoMethods) (rest : List Piece) → MethodsFit ms → ArePieces rest → ArePieces (methods_row ms rest)
  method_pieces NoMethod rest fits h = h
  method_pieces (AndMethod name owner pointer of methods) rest fits h =
      (fits.0, (tt, signature_pieces of (methods_row methods rest) fits.1 (method_pieces methods rest fits.2 h)))

-- ---- the limit of nodes

pub nodes_push : (row : List Piece) (p : Piece) → nodes_in (row ++ p ∷ []) ≡ nodes_in row + node_of p
nodes_push row p = omega (arith, nodes_append row (p ∷ []))

pub small_row : (t : GoType) → nodes_in (type_row t []) ≡ nodes t
small_row t = omega (arith, row_nodes t [])

-- what comes next has no more nodes than are left
pub enough_left : (types : List GoType) (all new : List Todo) (next : Todo) (row total : List Piece) (left : ℕ) → all ≡ new ++ next ∷ [] → row ++ pending types all [] ≡ total → nodes_in row + left ≡ 10000 → nodes_in total ≤ 10000 → todo_nodes next ≤ left
enough_left types all new (todo.Type id) row total left is so_far count small = omega arith
enough_left types all new (todo.Piece p) row total left is so_far count small =
    let shape : pending types all [] ≡ p ∷ pending types new [] = ap (λ (z : List Todo). pending types z []) is ∙ pending_last types new (todo.Piece p) [] in
    let sum : nodes_in total ≡ nodes_in row + nodes_in (p ∷ pending types new []) = ap nodes_in (sym so_far) ∙ nodes_append row (pending types all []) ∙ ap (λ (ps : List Piece). nodes_in row + nodes_in ps) shape in
    omega (arith, sum, count, small)

-- what is in the row then is all
pub all_in : (types : List GoType) (all : List Todo) (row total : List Piece) → all ≡ [] → row ++ pending types all [] ≡ total → row ≡ total
all_in types all row total is so_far = sym (append-nil row) ∙ ap (λ (z : List Todo). row ++ pending types z []) (sym is) ∙ so_far

pub all_small : (row total : List Piece) (left : ℕ) → row ≡ total → nodes_in row + left ≡ 10000 → nodes_in total ≤ 10000
all_small row total left is count = subst (λ (ps : List Piece). nodes_in ps ≤ 10000) is (omega (arith, count))

-- ---- what a table's numbers stand for is formed

types_formed : (t : TypeTable) → IsTable t → (ids : List TypeId) → AreBelow (count t) ids → AreFormedTypes (types_at (types_in t) ids)
types_formed t table [] below = tt
types_formed t table (id ∷ ids) below =
    (table_formed t id table (All-head (λ (x : TypeId). x.0 < count t) id ids below), types_formed t table ids (All-tail (λ (x : TypeId). x.0 < count t) id ids below))

pub function_formed : (t : TypeTable) → IsTable t → (s : Signature) → SignatureBelow (count t) s → IsFormed (FuncOf (signature_of (types_in t) s))
function_formed t table s below = (types_formed t table s.params below.0, types_formed t table s.results below.1)

-- ---- a type, and what its row says

pub is_type : (t : GoType) (row : List Piece) → IsFormed t → row ≡ type_row t [] → nodes t ≤ 10000 → ArePieces row → IsType t
is_type t row formed is small h = record { fits = (fits_of t [] formed (subst (λ (ps : List Piece). ArePieces ps) is h)).0; small = small }

pub all_pieces : (t : GoType) (row : List Piece) → row ≡ type_row t [] → IsType t → ArePieces row
all_pieces t row is h = subst (λ (ps : List Piece). ArePieces ps) (sym is) (pieces_of t [] h.fits tt)

-- what was refused for a weaker condition is refused for a stronger one
pub tells_less : (e : Unread) (P Q : Type 0) → (Q → P) → Denies e P → Denies e Q
tells_less unread.Memory P Q f h = tt
tells_less unread.Unspelled P Q f h = λ q. h (f q)

-- ---- bytes behind bytes

pub joined : (out one two a b c : List ℕ) → one ≡ out ++ (a ++ b) → two ≡ one ++ c → two ≡ out ++ (a ++ (b ++ c))
joined out one two a b c first second =
    second ∙ ap (λ (l : List ℕ). l ++ c) first ∙ append_assoc out (a ++ b) c ∙ ap (λ (l : List ℕ). out ++ l) (append_assoc a b c)

pub behind_two : (out one two a b : List ℕ) → one ≡ out ++ a → two ≡ one ++ b → two ≡ out ++ (a ++ b)
behind_two out one two a b first second = second ∙ ap (λ (l : List ℕ). l ++ b) first ∙ append_assoc out a b

pub behind_three : (out one two three a b c : List ℕ) → one ≡ out ++ a → two ≡ one ++ b → three ≡ two ++ c → three ≡ out ++ (a ++ (b ++ c))
behind_three out one two three a b c first second third = behind_two out one three a (b ++ c) first (behind_two one two three b c second third)

pub behind_four : (out one two three four a b c d : List ℕ) → one ≡ out ++ a → two ≡ one ++ b → three ≡ two ++ c → four ≡ three ++ d → four ≡ out ++ (a ++ (b ++ (c ++ d)))
behind_four out one two three four a b c d first second third fourth = behind_two out one four a (b ++ (c ++ d)) first (behind_three one two three four b c d second third fourth)

pub one_of : {A : Type 0} (P : A → Type 0) (xs : List A) (n : ℕ) (x : A) → n < length xs → x ≡ get_or xs n x → AllByRecursion P xs → P x
one_of P xs n x lt is all = subst P (sym is) (All-from_recursion P xs all n x lt)

-- ---- items written one after the other

module _ {A : Type 0} where
  one_more : (xs : List A) (n : ℕ) (x : A) → n < length xs → x ≡ get_or xs n x → take (n + 1) xs ≡ take n xs ++ x ∷ []
  one_more xs n x lt is = take_more xs n x lt ∙ ap (λ (y : A). take n xs ++ y ∷ []) (sym is)

  pub written_more : (f : A → List ℕ) (front : List ℕ) (xs : List A) (n : ℕ) (x : A) (out new : List ℕ) → n < length xs → x ≡ get_or xs n x
      → out ≡ front ++ flat_map f (take n xs) → new ≡ out ++ f x → new ≡ front ++ flat_map f (take (n + 1) xs)
  written_more f front xs n x out new lt is so_far grown =
      grown ∙ (ap (λ (l : List ℕ). l ++ f x) so_far ∙ (flat_map_more f front (take n xs) x ∙ ap (λ (l : List A). front ++ flat_map f l) (sym (one_more xs n x lt is))))

  one_all : (P : A → Type 0) (xs : List A) (x : A) → AllByRecursion P xs → P x → AllByRecursion P (xs ++ x ∷ [])
  one_all P [] x all one = (one, tt)
  one_all P (y ∷ ys) x all one = (all.0, one_all P ys x all.1 one)

  pub all_more : (P : A → Type 0) (xs : List A) (n : ℕ) (x : A) → n < length xs → x ≡ get_or xs n x → AllByRecursion P (take n xs) → P x → AllByRecursion P (take (n + 1) xs)
  all_more P xs n x lt is all one = subst (AllByRecursion P) (sym (one_more xs n x lt is)) (one_all P (take n xs) x all one)

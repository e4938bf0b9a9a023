-- What is still to be put into a row.
use Rattle.std.proofs.Common.{◌≡◌, ℕ, zero, suc, ◌+◌, ◌-◌, ◌*◌, ◌<◌, ◌≤◌, List, [], ◌∷◌, ◌++◌, length, take, get_or, Some, refl, sym, ap, ◌∙◌, arith}
use Rattle.std.specs.Prelude.{All}
use Rattle.std.proofs.lemmas.List.{take_more, append-nil}
use Rattle.std.proofs.lemmas.List.Elements.{All-append, All-pop}
use Rattle.type_model.specs.declared.term.TypeId.{TypeId}
use Rattle.type_model.specs.declared.term.Field.{Field}
use Rattle.type_model.specs.declared.term.Method.{Method}
use Rattle.type_model.specs.GoTypes.{GoType, GoSignature, GoTypes, GoFields, GoMethods, BasicType, DefinedType, PointerTo, SliceOf, ArrayOf, MapOf, ChanOf, FuncOf, StructOf, InterfaceOf, From, NoType, AndType, NoField, AndField, NoMethod, AndMethod, type_at, types_at, fields_of, methods_of}
use Rattle.type_texts.specs.declared.pieces.Piece.{Piece}
use Rattle.type_texts.specs.declared.pieces.Piece.TheVariants as piece
use Rattle.type_texts.specs.declared.type_rows.Todo.{Todo}
use Rattle.type_texts.specs.declared.type_rows.Todo.TheVariants as todo
use Rattle.type_texts.specs.Texts.{type_count, field_count, method_count, type_text}
use Rattle.type_texts.specs.Rows.{type_row, signature_row, types_row, fields_row, methods_row}
use Rattle.type_texts.specs.Pieces.{pieces_text}
use Rattle.type_texts.specs.Pending.{field_row, method_row, one_row, pending, IsIn, AreIn, one_piece, piece_count, steps_left}
use Rattle.type_texts.proofs.TypeRows.{row_text}

pub pending_last : (types : List GoType) (todos : List Todo) (t : Todo) (rest : List Piece) → pending types (todos ++ t ∷ []) rest ≡ one_row types t (pending types todos rest)
pending_last types [] t rest = refl
pending_last types (x ∷ todos) t rest = pending_last types todos t (one_row types x rest)

-- the last of some types comes directly before what is behind them
pub types_last : (types : List GoType) (front : List TypeId) (last : TypeId) (rest : List Piece) → types_row (types_at types (front ++ last ∷ [])) rest ≡ types_row (types_at types front) (type_row (type_at types last) rest)
types_last types [] last rest = refl
types_last types (id ∷ front) last rest = ap (λ (r : List Piece). type_row (type_at types id) r) (types_last types front last rest)

pub fields_last : (types : List GoType) (front : List Field) (last : Field) (rest : List Piece) → fields_row (fields_of types (front ++ last ∷ [])) rest ≡ fields_row (fields_of types front) (field_row types last rest)
fields_last types [] last rest = refl
fields_last types (f ∷ front) last rest = ap (λ (r : List Piece). field_row types f r) (fields_last types front last rest)

pub types_counted : (types : List GoType) (ids : List TypeId) → type_count (types_at types ids) ≡ length ids
types_counted types [] = refl
types_counted types (id ∷ ids) = omega (arith, types_counted types ids)

pub fields_counted : (types : List GoType) (fields : List Field) → field_count (fields_of types fields) ≡ length fields
fields_counted types [] = refl
fields_counted types (f ∷ fields) = omega (arith, fields_counted types fields)

-- ---- pieces among what is still to come

pub pieces_last : (todos : List Todo) (t : Todo) → piece_count (todos ++ t ∷ []) ≡ piece_count todos + one_piece t
pieces_last [] t = omega arith
pieces_last (x ∷ todos) t = omega (arith, pieces_last todos t)

single : {A : Type 0} (P : A → Type 0) (x : A) → P x → All P (x ∷ [])
single P x p zero d lt = p
single P x p (suc k) d lt = absurd (omega (arith, lt))

pub in_last : (n : ℕ) (todos : List Todo) (t : Todo) → IsIn n t → AreIn n todos → AreIn n (todos ++ t ∷ [])
in_last n todos t here h = record { each = All-append (IsIn n) todos (t ∷ []) h.each (single (IsIn n) t here) }

pub in_nil : (n : ℕ) → AreIn n []
in_nil n = record { each = λ k d lt. absurd (omega (arith, lt)) }

-- ---- the loops, from the last

pub types_step : (ids : List TypeId) (i : ℕ) (d : TypeId) (old now next : List Todo) → i < length ids
    → ((types : List GoType) (rest : List Piece) → types_row (types_at types (take (length ids - i) ids)) (pending types now rest) ≡ types_row (types_at types ids) (pending types old rest))
    → ((types : List GoType) (rest : List Piece) → pending types next rest ≡ type_row (type_at types (get_or ids (length ids - 1 - i) d)) (pending types now rest))
    → (types : List GoType) (rest : List Piece) → types_row (types_at types (take (length ids - (i + 1)) ids)) (pending types next rest) ≡ types_row (types_at types ids) (pending types old rest)
types_step ids i d old now next lt so_far put types rest =
    let k : length ids - i ≡ (length ids - 1 - i) + 1 = omega (arith, lt) in
    let j : length ids - (i + 1) ≡ length ids - 1 - i = omega (arith, lt) in
    let longer : take (length ids - i) ids ≡ take (length ids - 1 - i) ids ++ get_or ids (length ids - 1 - i) d ∷ [] = ap (λ (z : ℕ). take z ids) k ∙ take_more ids (length ids - 1 - i) d (omega (arith, lt)) in
    ap (λ (z : ℕ). types_row (types_at types (take z ids)) (pending types next rest)) j
    ∙ ap (λ (r : List Piece). types_row (types_at types (take (length ids - 1 - i) ids)) r) (put types rest)
    ∙ sym (types_last types (take (length ids - 1 - i) ids) (get_or ids (length ids - 1 - i) d) (pending types now rest))
    ∙ ap (λ (z : List TypeId). types_row (types_at types z) (pending types now rest)) (sym longer)
    ∙ so_far types rest

pub fields_step : (fields : List Field) (i : ℕ) (d : Field) (old now next : List Todo) → i < length fields
    → ((types : List GoType) (rest : List Piece) → fields_row (fields_of types (take (length fields - i) fields)) (pending types now rest) ≡ fields_row (fields_of types fields) (pending types old rest))
    → ((types : List GoType) (rest : List Piece) → pending types next rest ≡ field_row types (get_or fields (length fields - 1 - i) d) (pending types now rest))
    → (types : List GoType) (rest : List Piece) → fields_row (fields_of types (take (length fields - (i + 1)) fields)) (pending types next rest) ≡ fields_row (fields_of types fields) (pending types old rest)
fields_step fields i d old now next lt so_far put types rest =
    let k : length fields - i ≡ (length fields - 1 - i) + 1 = omega (arith, lt) in
    let j : length fields - (i + 1) ≡ length fields - 1 - i = omega (arith, lt) in
    let longer : take (length fields - i) fields ≡ take (length fields - 1 - i) fields ++ get_or fields (length fields - 1 - i) d ∷ [] = ap (λ (z : ℕ). take z fields) k ∙ take_more fields (length fields - 1 - i) d (omega (arith, lt)) in
    ap (λ (z : ℕ). fields_row (fields_of types (take z fields)) (pending types next rest)) j
    ∙ ap (λ (r : List Piece). fields_row (fields_of types (take (length fields - 1 - i) fields)) r) (put types rest)
    ∙ sym (fields_last types (take (length fields - 1 - i) fields) (get_or fields (length fields - 1 - i) d) (pending types now rest))
    ∙ ap (λ (z : List Field). fields_row (fields_of types z) (pending types now rest)) (sym longer)
    ∙ so_far types rest

pub methods_last : (types : List GoType) (front : List Method) (last : Method) (rest : List Piece) → methods_row (methods_of types (front ++ last ∷ [])) rest ≡ methods_row (methods_of types front) (method_row types last rest)
methods_last types [] last rest = refl
methods_last types (m ∷ front) last rest = ap (λ (r : List Piece). method_row types m r) (methods_last types front last rest)

pub methods_counted : (types : List GoType) (methods : List Method) → method_count (methods_of types methods) ≡ length methods
methods_counted types [] = refl
methods_counted types (m ∷ methods) = omega (arith, methods_counted types methods)

pub methods_step : (methods : List Method) (i : ℕ) (d : Method) (old now next : List Todo) → i < length methods
    → ((types : List GoType) (rest : List Piece) → methods_row (methods_of types (take (length methods - i) methods)) (pending types now rest) ≡ methods_row (methods_of types methods) (pending types old rest))
    → ((types : List GoType) (rest : List Piece) → pending types next rest ≡ method_row types (get_or methods (length methods - 1 - i) d) (pending types now rest))
    → (types : List GoType) (rest : List Piece) → methods_row (methods_of types (take (length methods - (i + 1)) methods)) (pending types next rest) ≡ methods_row (methods_of types methods) (pending types old rest)
methods_step methods i d old now next lt so_far put types rest =
    let k : length methods - i ≡ (length methods - 1 - i) + 1 = omega (arith, lt) in
    let j : length methods - (i + 1) ≡ length methods - 1 - i = omega (arith, lt) in
    let longer : take (length methods - i) methods ≡ take (length methods - 1 - i) methods ++ get_or methods (length methods - 1 - i) d ∷ [] = ap (λ (z : ℕ). take z methods) k ∙ take_more methods (length methods - 1 - i) d (omega (arith, lt)) in
    ap (λ (z : ℕ). methods_row (methods_of types (take z methods)) (pending types next rest)) j
    ∙ ap (λ (r : List Piece). methods_row (methods_of types (take (length methods - 1 - i) methods)) r) (put types rest)
    ∙ sym (methods_last types (take (length methods - 1 - i) methods) (get_or methods (length methods - 1 - i) d) (pending types now rest))
    ∙ ap (λ (z : List Method). methods_row (methods_of types z) (pending types now rest)) (sym longer)
    ∙ so_far types rest

-- ---- one step of the loop

pub popped_row : (types : List GoType) (all new : List Todo) (next : Todo) (row after end : List Piece) (left : List Todo) → all ≡ new ++ next ∷ []
    → after ++ pending types left [] ≡ row ++ one_row types next (pending types new []) → row ++ pending types all [] ≡ end → after ++ pending types left [] ≡ end
popped_row types all new next row after end left is moved so_far =
    moved ∙ ap (λ (r : List Piece). row ++ r) (sym (pending_last types new next []) ∙ ap (λ (z : List Todo). pending types z []) (sym is)) ∙ so_far

pub popped_in : (n : ℕ) (all new : List Todo) (next : Todo) → all ≡ new ++ next ∷ [] → AreIn n all → AreIn n new
popped_in n all new next is h = record { each = (All-pop (IsIn n) all new (Some next) is h.each).0 }

pub popped_next : (n : ℕ) (all new : List Todo) (next : Todo) → all ≡ new ++ next ∷ [] → AreIn n all → IsIn n next
popped_next n all new next is h = (All-pop (IsIn n) all new (Some next) is h.each).1

-- the row of a type is its text
pub row_spelled : (t : GoType) → pieces_text (type_row t []) ≡ type_text t
row_spelled t = row_text t [] ∙ append-nil (type_text t)

-- ---- the steps that are left

mutual
  row_longer : (t : GoType) (rest : List Piece) → length rest ≤ length (type_row t rest)
  row_longer (BasicType k) rest = omega arith
  row_longer (DefinedType name) rest = omega arith
  row_longer (PointerTo of) rest = omega (arith, row_longer of rest)
  row_longer (SliceOf of) rest = omega (arith, row_longer of rest)
  row_longer (ArrayOf size of) rest = omega (arith, row_longer of rest)
  row_longer (MapOf key of) rest = omega (arith, row_longer key (type_row of rest), row_longer of rest)
  row_longer (ChanOf direction of) rest = omega (arith, row_longer of rest)
  row_longer (FuncOf of) rest = omega (arith, signature_longer of rest)
  row_longer (StructOf fields) rest = omega (arith, fields_longer fields rest)
  row_longer (InterfaceOf methods) rest = omega (arith, methods_longer methods rest)

  signature_longer : (s : GoSignature) (rest : List Piece) → length rest ≤ length (signature_row s rest)
  signature_longer (From params results variadic) rest =
      omega (arith, types_longer params (piece.List (type_count results) ∷ types_row results rest), types_longer results rest)

  types_longer : (ts : GoTypes) (rest : List Piece) → length rest ≤ length (types_row ts rest)
  types_longer NoType rest = omega arith
  types_longer (AndType of types) rest = omega (arith, row_longer of (types_row types rest), types_longer types rest)

  fields_longer : (fs : GoFields) (rest : List Piece) → length rest ≤ length (fields_row fs rest)
  fields_longer NoField rest = omega arith
  fields_longer (AndField name owner embedded of tag fields) rest = omega (arith, row_longer of (piece.Tag tag ∷ fields_row fields rest), fields_longer fields rest)

  methods_longer : (ms : GoMethods) (rest : List Piece) → length rest ≤ length (methods_row ms rest)
  methods_longer NoMethod rest = omega arith
  methods_longer (AndMethod name owner pointer of methods) rest = omega (arith, signature_longer of (methods_row methods rest), methods_longer methods rest)

todo_longer : (types : List GoType) (t : Todo) (rest : List Piece) → one_piece t + length rest ≤ length (one_row types t rest)
todo_longer types (todo.Type id) rest = omega (arith, row_longer (type_at types id) rest)
todo_longer types (todo.Piece p) rest = omega arith

-- each piece among them is still to come
pieces_to_come : (types : List GoType) (todos : List Todo) (rest : List Piece) → piece_count todos + length rest ≤ length (pending types todos rest)
pieces_to_come types [] rest = omega arith
pieces_to_come types (t ∷ todos) rest = omega (arith, pieces_to_come types todos (one_row types t rest), todo_longer types t rest)

pub taken_fewer : (types : List GoType) (todos new : List Todo) (p : Piece) → new ≡ todos → steps_left types new < steps_left types (todos ++ todo.Piece p ∷ [])
unfolding steps_left
taken_fewer types todos new p same =
    let come : length (pending types (todos ++ todo.Piece p ∷ []) []) ≡ length (p ∷ pending types todos []) = ap length (pending_last types todos (todo.Piece p) []) in
    let kept : steps_left types new ≡ steps_left types todos = ap (λ (z : List Todo). steps_left types z) same in
    omega (arith, come, kept, pieces_last todos (todo.Piece p), pieces_to_come types todos [])

pub opened_fewer : (types : List GoType) (todos new : List Todo) (id : TypeId) → pending types new [] ≡ type_row (type_at types id) (pending types todos [])
    → piece_count todos < piece_count new → steps_left types new < steps_left types (todos ++ todo.Type id ∷ [])
unfolding steps_left
opened_fewer types todos new id opened more =
    let come : length (pending types (todos ++ todo.Type id ∷ []) []) ≡ length (type_row (type_at types id) (pending types todos [])) = ap length (pending_last types todos (todo.Type id) []) in
    let kept : length (pending types new []) ≡ length (type_row (type_at types id) (pending types todos [])) = ap length opened in
    omega (arith, come, kept, more, pieces_last todos (todo.Type id), pieces_to_come types new [])

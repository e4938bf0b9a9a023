-- What of a numbered type is still to be put into its row: types and pieces, the last one first.
use Rattle.std.specs.Prelude.{ℕ, ◌<◌, ◌+◌, ◌-◌, ◌*◌, List, [], ◌∷◌, length, All}
use Rattle.type_model.specs.declared.term.TypeId.{TypeId}
use Rattle.type_model.specs.declared.term.Field.{Field}
use Rattle.type_model.specs.declared.term.Method.{Method}
use Rattle.type_model.specs.GoTypes.{GoType, type_at, types_at, signature_of}
use Rattle.type_texts.specs.declared.pieces.Piece.{Piece}
use Rattle.type_texts.specs.declared.pieces.Piece.TheVariants as piece
use Rattle.type_texts.specs.declared.type_rows.Todo.{Todo}
use Rattle.type_texts.specs.declared.type_rows.Todo.TheVariants as todo
use Rattle.type_texts.specs.Texts.{type_count}
use Rattle.type_texts.specs.Rows.{type_row, types_row, signature_row}

-- a list of types, with its count in front
abbrev pub list_row : List GoType → List TypeId → List Piece → List Piece
list_row types ids rest = piece.List (type_count (types_at types ids)) ∷ types_row (types_at types ids) rest

abbrev pub field_row : List GoType → Field → List Piece → List Piece
field_row types f rest = piece.Field f.name f.package f.embedded ∷ type_row (type_at types f.of) (piece.Tag f.tag ∷ rest)

abbrev pub method_row : List GoType → Method → List Piece → List Piece
method_row types m rest = piece.Method m.name m.package m.pointer ∷ piece.Signature m.of.variadic ∷ signature_row (signature_of types m.of) rest

abbrev pub one_row : List GoType → Todo → List Piece → List Piece
one_row types (todo.Type id) rest = type_row (type_at types id) rest
one_row types (todo.Piece p) rest = p ∷ rest

-- the pieces still to come, those of the last first
abbrev pub pending : List GoType → List Todo → List Piece → List Piece
pending types [] rest = rest
pending types (t ∷ todos) rest = pending types todos (one_row types t rest)

abbrev pub IsIn : ℕ → Todo → Type 0
IsIn n (todo.Type id) = id.0 < n
IsIn n (todo.Piece p) = Unit {0}

pub record AreIn (n : ℕ) (todos : List Todo) : Type 0 where
  pub each : All (IsIn n) todos

-- how many of them are pieces
abbrev pub one_piece : Todo → ℕ
one_piece (todo.Type id) = 0
one_piece (todo.Piece p) = 1

abbrev pub piece_count : List Todo → ℕ
piece_count [] = 0
piece_count (t ∷ todos) = one_piece t + piece_count todos

-- More than the steps that are left. Each piece that is still to come counts two, less one where it stands there by itself: a step that
-- takes a piece takes one, and a step that opens a type leaves the same pieces to come, of which at least one more stands by itself.
unfoldable pub steps_left : List GoType → List Todo → ℕ
steps_left types todos = 2 * length (pending types todos []) - piece_count todos

-- how many pieces of a row count as nodes of its type
abbrev pub node_of : Piece → ℕ
node_of (piece.List n) = 0
node_of (piece.Field name owner embedded) = 0
node_of (piece.Tag tag) = 0
node_of (piece.Method name owner pointer) = 0
node_of p = 1

abbrev pub todo_nodes : Todo → ℕ
todo_nodes (todo.Type id) = 0
todo_nodes (todo.Piece p) = node_of p

abbrev pub nodes_in : List Piece → ℕ
nodes_in [] = 0
nodes_in (p ∷ ps) = node_of p + nodes_in ps

use Rattle.std.proofs.Common.{◌≡◌, ℕ, ◌-◌, ◌≤◌, take, List}
use Rattle.std.specs.Prelude.{length}
use Rattle.type_model.specs.GoTypes.{GoType, fields_of, FieldsBelow}
use Rattle.type_texts.specs.declared.pieces.Piece.{Piece}
use Rattle.type_texts.specs.Rows.{fields_row}
use Rattle.type_texts.specs.Pending.{pending, AreIn, piece_count}
use Rattle.type_texts.proofs.type_rows.push_fields.Given as goal

abbrev pub invariant-loop-k : goal.invariant-loop-k
invariant-loop-k l =
    record {
      pending : (types : List GoType) (rest : List Piece) → fields_row (fields_of types (take (length l.fields - l.k) l.fields)) (pending types l.todo.items rest) ≡ fields_row (fields_of types l.fields) (pending types l.fn.todo.items rest);
      within : (n : ℕ) → FieldsBelow n l.fields → AreIn n l.fn.todo.items → AreIn n l.todo.items;
      pieces : piece_count l.fn.todo.items ≤ piece_count l.todo.items;
    }

use Rattle.std.proofs.Common.{◌≡◌, ℕ, ◌-◌, ◌≤◌, take, List}
use Rattle.std.specs.Prelude.{length}
use Rattle.type_model.specs.GoTypes.{GoType, methods_of, MethodsBelow}
use Rattle.type_texts.specs.declared.pieces.Piece.{Piece}
use Rattle.type_texts.specs.Rows.{methods_row}
use Rattle.type_texts.specs.Pending.{pending, AreIn, piece_count}
use Rattle.type_texts.proofs.type_rows.push_methods.Given as goal

abbrev pub invariant-loop-k : goal.invariant-loop-k
invariant-loop-k l =
    record {
      pending : (types : List GoType) (rest : List Piece) → methods_row (methods_of types (take (length l.methods - l.k) l.methods)) (pending types l.todo.items rest) ≡ methods_row (methods_of types l.methods) (pending types l.fn.todo.items rest);
      within : (n : ℕ) → MethodsBelow n l.methods → AreIn n l.fn.todo.items → AreIn n l.todo.items;
      pieces : piece_count l.fn.todo.items ≤ piece_count l.todo.items;
    }

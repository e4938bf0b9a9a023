use Rattle.std.proofs.Common.{◌≡◌, ℕ, ◌-◌, ◌≤◌, take, List}
use Rattle.std.specs.Prelude.{length}
use Rattle.type_model.specs.GoTypes.{GoType, types_at, AreBelow}
use Rattle.type_texts.specs.declared.pieces.Piece.{Piece}
use Rattle.type_texts.specs.Rows.{types_row}
use Rattle.type_texts.specs.Pending.{pending, AreIn, piece_count}
use Rattle.type_texts.proofs.type_rows.push_types.Given as goal

abbrev pub invariant-loop-k : goal.invariant-loop-k
invariant-loop-k l =
    record {
      pending : (types : List GoType) (rest : List Piece) → types_row (types_at types (take (length l.ids - l.k) l.ids)) (pending types l.todo.items rest) ≡ types_row (types_at types l.ids) (pending types l.fn.todo.items rest);
      within : (n : ℕ) → AreBelow n l.ids → AreIn n l.fn.todo.items → AreIn n l.todo.items;
      pieces : piece_count l.fn.todo.items ≤ piece_count l.todo.items;
    }

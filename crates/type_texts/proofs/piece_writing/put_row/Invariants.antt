use Rattle.std.proofs.Common.{◌≡◌, ◌++◌, take}
use Rattle.std.specs.List.{flat_map, AllByRecursion}
use Rattle.type_texts.specs.Pieces.{piece_text, IsPiece}
use Rattle.type_texts.proofs.piece_writing.put_row.Given as goal

abbrev pub invariant-loop-piece : goal.invariant-loop-piece
invariant-loop-piece l =
    record { written : l.out.items ≡ l.fn.out.items ++ flat_map piece_text (take l.piece-index l.row); fits : AllByRecursion IsPiece (take l.piece-index l.row) }

use Rattle.std.proofs.Common.{◌≡◌, ◌-◌, ◌∷◌, []}
use Rattle.std.specs.Prelude.{length}
use Rattle.gv_bytes.proofs.Loops.{with_front}
use Rattle.type_texts.specs.declared.pieces.Sort.TheVariants.{OneType}
use Rattle.type_texts.specs.Pieces.{wanted, pieces_at}
use Rattle.type_texts.proofs.piece_reading.pieces_of.Given as goal

abbrev pub invariant-loop : goal.invariant-loop
invariant-loop l = with_front l.row.items (pieces_at (length l.bytes - l.counter) (wanted l.wants.items) l.rest) ≡ pieces_at (length l.bytes) (OneType ∷ []) l.bytes

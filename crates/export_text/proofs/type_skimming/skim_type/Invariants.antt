use Rattle.std.proofs.Common.{◌≡◌, ◌-◌, ◌∷◌, []}
use Rattle.std.specs.Prelude.{length}
use Rattle.type_texts.specs.declared.pieces.Sort.TheVariants.{OneType}
use Rattle.type_texts.specs.Pieces.{wanted}
use Rattle.export_text.specs.Skimming.{row_skimmed}
use Rattle.export_text.proofs.type_skimming.skim_type.Given as goal

abbrev pub invariant-loop : goal.invariant-loop
invariant-loop l = row_skimmed l.path (length l.bytes - l.counter) (wanted l.wants.items) l.out.items l.rest ≡ row_skimmed l.path (length l.bytes) (OneType ∷ []) l.fn.out.items l.bytes

use Rattle.std.proofs.Common.{refl, ◌∙◌}
use Rattle.go_tree.specs.Lexeme.{marks}
use Rattle.go_lexeme.proofs.Slots.{slot_place_is}
use Rattle.go_lexeme.proofs.table.mark_place.Goals as goal

pub returns-clause-place : goal.returns-clause-place
returns-clause-place c = c.place_in.ensures.place ∙ slot_place_is marks _ _ refl refl

use Rattle.mark_walk.proofs.AskLaws.{first_sound}
use Rattle.mark_walk.proofs.laws.first_marks_are_sound.Goals as goal

pub returns : goal.returns
returns g c s so_far first = first_sound (g.K.Marking.says s) (g.K.Marking.rule s) so_far first

use Rattle.mark_walk.proofs.AskLaws.{the_annotation}
use Rattle.mark_walk.proofs.laws.sound_marks_are_the_annotation.Goals as goal

pub returns : goal.returns
returns g c s blank so_far sound all = the_annotation (g.K.Marking.says s) (g.K.Marking.pends s) (g.K.Marking.lasts s) blank (g.K.Marking.rule s) so_far sound all

use Rattle.mark_walk.proofs.AskLaws.{no_circle}
use Rattle.mark_walk.proofs.laws.ranked_rules_meet_no_circle.Goals as goal

pub returns : goal.returns
returns g c s so_far rank ranked i circle = no_circle (g.K.Marking.says s) (g.K.Marking.pends s) (g.K.Marking.rule s) so_far rank ranked i circle

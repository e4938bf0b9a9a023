use Rattle.std.proofs.Common.{slice_get, sym, ◌∙◌}
use Rattle.mark_walk.specs.Asks.{filled}
use Rattle.typed_marks.specs.Meanings.{Quiet}
use Rattle.typed_marks.specs.States.{so_far}
use Rattle.unit_read.specs.Passages.{passages}
use Rattle.unit_read.specs.Subjects.{unit_of}
use Rattle.check_pkg.specs.Items.{RefusesPassage}
use Rattle.check_pkg.proofs.GainLemmas.{gains_some, gains_nothing}
use Rattle.check_pkg.proofs.faults.refuse_block.Goals as goal

pub returns-in_ok-refuse_passage-in-Some : goal.returns-in_ok-refuse_passage-in-Some
returns-in_ok-refuse_passage-in-Some c =
    let u = unit_of c.args.u.now in
    let marks = filled Quiet (so_far c.args.s.now) in
    gains_some (slice_get (passages u.trees) c.args.block) (RefusesPassage u marks c.args.block) c.in-Some.p c.args.list.now.items c.refuse_passage.new.list.items
    (sym c.passage_at.ensures ∙ c.in-Some.is) c.in_ok-refuse_passage-in-Some.ensures

pub returns-in-None : goal.returns-in-None
returns-in-None c =
    let u = unit_of c.args.u.now in
    let marks = filled Quiet (so_far c.args.s.now) in
    gains_nothing (slice_get (passages u.trees) c.args.block) (RefusesPassage u marks c.args.block) c.args.list.now.items (sym c.passage_at.ensures ∙ c.in-None.is)

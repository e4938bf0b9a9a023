use Rattle.std.proofs.Common.{◌≡◌, ◌∙◌, sym, ap, slice_get, List}
use Rattle.typed_marks.specs.declared.item.Block.{Block}
use Rattle.unit_read.specs.Subjects.{full_of}
use Rattle.elaborate.specs.Covering.{IsAnything}
use Rattle.elaborate.proofs.WalkLemmas.{went_itself}
use Rattle.elaborate.proofs.CoverLemmas.{ended_well}
use Rattle.elaborate.proofs.ahead.mark_stretch.Goals as goal

pub is_done-requires : goal.is_done-requires
is_done-requires g c = c.requires.work.scene.state

pub returns-in-None-clause-went : goal.returns-in-None-clause-went
returns-in-None-clause-went g c = went_itself g.R.Rules.rule c.args.work.now.subject.now c.args.work.now.state c.requires.work

pub returns-in-None-clause-ended : goal.returns-in-None-clause-ended
returns-in-None-clause-ended g c = ended_well g.R.Rules.rule (full_of c.args.work.now.subject.now) c.args.work.now.state c.args.walk.now IsAnything c.requires.rests tt

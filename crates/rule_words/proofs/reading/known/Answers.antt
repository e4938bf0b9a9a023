use Rattle.mark_walk.specs.Asks.{done}
use Rattle.unit_read.specs.Subjects.{unit_of}
use Rattle.rule_words.specs.Asking.{mark_under, part_with}
use Rattle.rule_words.specs.Scenes.{said, sight}
use Rattle.rule_words.proofs.BindLaws.{waits_bind}
use Rattle.rule_words.proofs.reading.known.Goals as goal

pub returns-in-Wait-clause-is : goal.returns-in-Wait-clause-is
returns-in-Wait-clause-is c =
    let s = c.args.s.now in
    let m = said s c.args.m in
    waits_bind (sight s) (mark_under (unit_of c.args.u.now) m) (λ under. done (part_with m under)) c.in-Wait.item c.in-Wait.ensures.is

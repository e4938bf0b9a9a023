use Rattle.std.proofs.Common.{ap, option_map}
use Rattle.typed_marks.specs.Meanings.{mark_in}
use Rattle.typed_marks.specs.States.{so_far}
use Rattle.typed_marks.proofs.state.State.see.Goals as goal

pub returns-clause-is : goal.returns-clause-is
unfolding so_far
returns-clause-is c = ap (option_map (mark_in c.args.self.now.table c.args.self.now.constants.items)) c.kept.ensures

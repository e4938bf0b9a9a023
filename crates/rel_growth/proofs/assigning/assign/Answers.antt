use Rattle.std.proofs.Common.{inr}
use Rattle.rel_growth.proofs.assigning.assign.Goals as goal

pub returns : goal.returns
returns c = (inr (c.is_missing.ensures.known c.if-is_missing.false, c.waits_for_value.ensures.not c.if-waits_for_value.false), c.assignable-2.ensures)

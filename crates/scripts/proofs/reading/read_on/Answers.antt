use Rattle.std.proofs.Common.{refl, false}
use Rattle.scripts.proofs.ReadOnLaws.{not-true}
use Rattle.scripts.proofs.ReadOnLaws.{reads-end, reads-on, reads-part}
use Rattle.scripts.proofs.reading.read_on.Goals as goal

pub returns-then-is_end : goal.returns-then-is_end
returns-then-is_end c = reads-end c.args.script.now c.args.at _ c.in-Whole.len c.in-Whole.command c.requires refl (rw (c.first_bytes-first.ensures, c.rest_from-rest.ensures) at c.in-Whole.ensures) (c.if-is_end.ensures.0 refl)

pub returns-else-is_end : goal.returns-else-is_end
returns-else-is_end c = reads-on c.args.script.now c.args.at _ c.in-Whole.len c.in-Whole.command c.requires refl (rw (c.first_bytes-first.ensures, c.rest_from-rest.ensures) at c.in-Whole.ensures) (λ e. not-true false refl (c.if-is_end.ensures.1 e))

pub returns-in-NeedMore : goal.returns-in-NeedMore
returns-in-NeedMore c = reads-part c.args.script.now c.args.at _ c.requires refl (rw (c.first_bytes-first.ensures, c.rest_from-rest.ensures) at c.in-NeedMore.ensures)

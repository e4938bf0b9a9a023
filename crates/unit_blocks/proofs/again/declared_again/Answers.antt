use Rattle.std.proofs.Common.{ap, ◌∙◌}
use Rattle.unit_read.specs.Subjects.{unit_of}
use Rattle.unit_rows.specs.Redeclared.{named_again}
use Rattle.unit_blocks.proofs.again.declared_again.Goals as goal

pub returns : goal.returns
returns c = c.in_ok-list.ensures ∙ ap (named_again (unit_of c.args.s.now)) (c.deref.ensures.value ∙ c.in_ok-names.ensures)

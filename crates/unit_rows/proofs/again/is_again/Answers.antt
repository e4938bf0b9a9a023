use Rattle.std.proofs.Common.{ap, ◌∙◌}
use Rattle.unit_read.specs.Index.{texts_of}
use Rattle.unit_read.specs.Members.{is_again}
use Rattle.unit_rows.proofs.again.is_again.Goals as goal

pub returns : goal.returns
returns c = c.stands_before.ensures ∙ ap (is_again (texts_of c.args.names.now) c.args.i) c.nth_name.ensures

use Rattle.std.proofs.Common.{sym, ◌∙◌}
use Rattle.unit_rows.proofs.again.place_in.Goals as goal

pub returns : goal.returns
returns c = c.find.ensures ∙ c.requires (sym c.are_few.ensures ∙ c.if-are_few.false) c.args.name.now

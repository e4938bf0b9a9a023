use Rattle.std.specs.Option.{option_copied}
use Rattle.std.proofs.Common.{sym, ap, ◌∙◌}
use Rattle.body_rules.proofs.BareLemmas.{none_first}
use Rattle.body_rules.proofs.branches.left_by.Goals as goal

pub nearest_left-requires-clause-nearest : goal.nearest_left-requires-clause-nearest
nearest_left-requires-clause-nearest c = c.requires.nearest (none_first c.args.parts.now (sym c.first.ensures.value ∙ ap option_copied c.in-None.is))

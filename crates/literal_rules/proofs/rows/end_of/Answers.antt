use Rattle.std.proofs.Common.{◌<◌, Some, sym, ap, ◌∙◌}
use Rattle.literal_rules.specs.Rows.{behind}
use Rattle.literal_rules.proofs.AgainLemmas.{if_some, end_on}
use Rattle.literal_rules.proofs.rows.end_of.Goals as goal

pub behind-requires : goal.behind-requires
behind-requires c = if_some (λ p. p < c.args.limit) c.nth.result (λ p e. c.requires c.loop-i.i p (sym c.nth.ensures ∙ e))

pub loop-i-preserved : goal.loop-i-preserved
loop-i-preserved c = end_on c.args.places.now c.loop-i.i c.loop-i.end _ _ c.loop-i.invariant (c.behind.ensures ∙ ap behind c.nth.ensures) c.greater-end.ensures

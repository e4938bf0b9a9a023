use Rattle.std.proofs.Common.{ap, is_some, ◌∙◌}
use Rattle.std.specs.Str.{bytes_eq}
use Rattle.rule_words.specs.Met.{kept}
use Rattle.rule_words.proofs.AgainLemmas.{kept_on}
use Rattle.rule_words.proofs.met.meet_spelled.Goals as goal

pub returns-clause-notes : goal.returns-clause-notes
returns-clause-notes c = λ k. ap is_some (c.in_ok-keep.ensures k) ∙ kept_on (bytes_eq c.args.key.items k) 0 (kept c.args.met.now k)

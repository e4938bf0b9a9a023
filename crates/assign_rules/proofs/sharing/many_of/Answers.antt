use Rattle.std.proofs.Common.{sym, ◌∙◌}
use Rattle.rule_words.specs.Scenes.{type_in}
use Rattle.assign_rules.proofs.RestLemmas.{mapped_length}
use Rattle.assign_rules.proofs.sharing.many_of.Goals as goal

pub returns : goal.returns
returns c = sym (mapped_length (type_in c.args.s.now) c.args.types.now)

use Rattle.type_model.specs.Tables.{count}
use Rattle.rule_words.proofs.ListLemmas.{below_at}
use Rattle.rule_words.proofs.types.nth.Goals as goal

pub returns-clause-within : goal.returns-clause-within
returns-clause-within c = below_at (count c.args.s.now.table) c.args.types.now c.args.i c.id_nth.result c.id_nth.ensures c.requires.below

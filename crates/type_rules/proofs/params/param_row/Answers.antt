use Rattle.std.proofs.Common.{ap, ◌∙◌}
use Rattle.type_model.specs.Tables.{types_in}
use Rattle.type_rules.specs.Signatures.{types_from}
use Rattle.type_rules.proofs.PartLemmas.{types_from_all}
use Rattle.type_rules.proofs.params.param_row.Goals as goal

pub returns-clause-are : goal.returns-clause-are
returns-clause-are c = types_from_all (types_in c.args.s.now.table) c.in_ok-list.list.items ∙ ap types_from c.in_ok-list.ensures.are

use Rattle.std.proofs.Common.{ap, ◌∙◌}
use Rattle.type_rules.specs.Structs.{fields_from}
use Rattle.type_rules.proofs.FieldLemmas.{fields_from_all}
use Rattle.type_rules.proofs.structs.field_row.Goals as goal

pub returns-clause-are : goal.returns-clause-are
returns-clause-are c = fields_from_all c.args.s.now c.in_ok-list.list.items ∙ ap fields_from c.in_ok-list.ensures.are

use Rattle.type_model.specs.Tables.{count}
use Rattle.decl_rules.proofs.told_methods.add_unknown.Goals as goal

pub add_with-requires-clause-of : goal.add_with-requires-clause-of
add_with-requires-clause-of c = c.no_signature-of.ensures.below (count c.args.s.now.table)

use Rattle.vet_simple.proofs.struct_tags.report_node.Goals as goal

pub returns-clause-found : goal.returns-clause-found
returns-clause-found c = λ met. c.in_ok-report_names.ensures (c.in_ok-told.ensures.told c.args.parts.now met)

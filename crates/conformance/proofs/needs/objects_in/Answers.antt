use Rattle.conformance.proofs.needs.objects_in.Goals as goal

pub bind-requires-clause-spelled : goal.bind-requires-clause-spelled
bind-requires-clause-spelled c = c.requires.spelled

pub bind-requires-clause-fit : goal.bind-requires-clause-fit
bind-requires-clause-fit c = c.requires.small

pub needs_order-requires-clause-small : goal.needs_order-requires-clause-small
needs_order-requires-clause-small c = c.requires.small

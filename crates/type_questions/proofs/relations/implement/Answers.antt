use Rattle.type_questions.proofs.relations.implement.Goals as goal

pub implements-requires-clause-interface : goal.implements-requires-clause-interface
implements-requires-clause-interface c = c.requires.interface (c.is_missing.ensures.known c.if-is_missing.false)

pub returns : goal.returns
returns c = (c.is_missing.ensures.known c.if-is_missing.false, c.in_ok-answer.ensures)

use Rattle.type_texts.proofs.type_rows.push_map.Goals as goal

pub returns-clause-within : goal.returns-clause-within
returns-clause-within c = λ n first second h. c.in_ok-push_over.ensures.within n first (c.in_ok-push_todo.ensures.within n second h)

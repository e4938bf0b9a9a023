use Rattle.type_texts.proofs.type_rows.push_method.Goals as goal

pub returns-clause-within : goal.returns-clause-within
returns-clause-within c = λ n below h. c.in_ok-push_todo-2.ensures.within n tt (c.in_ok-push_todo.ensures.within n tt (c.in_ok-push_signature.ensures.within n below h))

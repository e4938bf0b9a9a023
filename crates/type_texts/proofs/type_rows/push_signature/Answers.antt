use Rattle.type_texts.proofs.type_rows.push_signature.Goals as goal

pub returns-clause-within : goal.returns-clause-within
returns-clause-within c = λ n below h. c.in_ok-push_list-2.ensures.within n (rw c.as_slice-2.ensures below.0) (c.in_ok-push_list.ensures.within n (rw c.as_slice.ensures below.1) h)

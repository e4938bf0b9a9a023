use Rattle.std.proofs.Common.{subst}
use Rattle.type_model.specs.declared.term.Term.{Term}
use Rattle.type_model.specs.GoTypes.{IsOver}
use Rattle.type_texts.proofs.type_rows.push_term.Goals as goal

pub returns-in_ok-push_todo-in-Basic-clause-within : goal.returns-in_ok-push_todo-in-Basic-clause-within
returns-in_ok-push_todo-in-Basic-clause-within c = λ n over h. c.in_ok-push_todo-in-Basic.ensures.within n tt h

pub returns-in_ok-push_todo-in-Defined-clause-within : goal.returns-in_ok-push_todo-in-Defined-clause-within
returns-in_ok-push_todo-in-Defined-clause-within c = λ n over h. c.in_ok-push_todo-in-Defined.ensures.within n tt h

pub returns-in_ok-push_over-in-Pointer-clause-within : goal.returns-in_ok-push_over-in-Pointer-clause-within
returns-in_ok-push_over-in-Pointer-clause-within c = λ n over h. c.in_ok-push_over-in-Pointer.ensures.within n (subst (λ (t : Term). IsOver n t) c.in-Pointer.is over) h

pub returns-in_ok-push_over-in-Slice-clause-within : goal.returns-in_ok-push_over-in-Slice-clause-within
returns-in_ok-push_over-in-Slice-clause-within c = λ n over h. c.in_ok-push_over-in-Slice.ensures.within n (subst (λ (t : Term). IsOver n t) c.in-Slice.is over) h

pub returns-in_ok-push_over-in-Array-clause-within : goal.returns-in_ok-push_over-in-Array-clause-within
returns-in_ok-push_over-in-Array-clause-within c = λ n over h. c.in_ok-push_over-in-Array.ensures.within n (subst (λ (t : Term). IsOver n t) c.in-Array.is over) h

pub returns-in_ok-push_map-in-Map-clause-within : goal.returns-in_ok-push_map-in-Map-clause-within
returns-in_ok-push_map-in-Map-clause-within c = λ n over h. c.in_ok-push_map-in-Map.ensures.within n (subst (λ (t : Term). IsOver n t) c.in-Map.is over).0 (subst (λ (t : Term). IsOver n t) c.in-Map.is over).1 h

pub returns-in_ok-push_over-in-Chan-clause-within : goal.returns-in_ok-push_over-in-Chan-clause-within
returns-in_ok-push_over-in-Chan-clause-within c = λ n over h. c.in_ok-push_over-in-Chan.ensures.within n (subst (λ (t : Term). IsOver n t) c.in-Chan.is over) h

pub returns-in_ok-push_func-in-Func-clause-within : goal.returns-in_ok-push_func-in-Func-clause-within
returns-in_ok-push_func-in-Func-clause-within c = λ n over h. c.in_ok-push_func-in-Func.ensures.within n (subst (λ (t : Term). IsOver n t) c.in-Func.is over) h

pub returns-in_ok-push_interface-in-Interface-clause-within : goal.returns-in_ok-push_interface-in-Interface-clause-within
returns-in_ok-push_interface-in-Interface-clause-within c = λ n over h. c.in_ok-push_interface-in-Interface.ensures.within n (rw c.as_slice-in-Interface.ensures (subst (λ (t : Term). IsOver n t) c.in-Interface.is over)) h

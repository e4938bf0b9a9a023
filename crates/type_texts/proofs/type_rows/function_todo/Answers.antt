use Rattle.std.proofs.Common.{List, sym, subst}
use Rattle.type_texts.specs.declared.type_rows.Todo.{Todo}
use Rattle.type_texts.specs.Pending.{AreIn}
use Rattle.type_texts.proofs.PendingLaws.{in_nil}
use Rattle.type_texts.proofs.type_rows.function_todo.Goals as goal

pub returns-clause-within : goal.returns-clause-within
returns-clause-within c = λ n below. c.in_ok-push_func.ensures.within n below (subst (λ (l : List Todo). AreIn n l) (sym c.in_ok-todo.ensures.items) (in_nil n))

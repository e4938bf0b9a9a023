use Rattle.std.proofs.Common.{rules, ◌≡◌, ◌<◌, ◌≤◌, List, [], length, subst, sym, arith}
use Rattle.std.proofs.lemmas.List.{nil_from_length}
use Rattle.std.proofs.lemmas.Result.{err_from_is_err_and}
use Rattle.type_model.specs.Tables.{types_in, count}
use Rattle.type_texts.specs.declared.type_rows.Todo.{Todo}
use Rattle.type_texts.specs.Pending.{pending, nodes_in, steps_left, todo_nodes}
use Rattle.type_texts.proofs.PendingLaws.{popped_row, popped_in, popped_next}
use Rattle.type_texts.proofs.WriteLaws.{all_in, all_small, enough_left, tells_less}
use Rattle.type_texts.proofs.type_rows.rest_of.Goals as goal

pub step-requires-clause-within : goal.step-requires-clause-within
step-requires-clause-within c = popped_next (count c.args.table.now) c.loop-next.todo.items c.pop.new.self.items c.in-Some.next c.in-Some.ensures.items c.loop-next.invariant.within

pub loop-next-preserved : goal.loop-next-preserved
loop-next-preserved c = record {
  pending = popped_row (types_in c.args.table.now) c.loop-next.todo.items c.pop.new.self.items c.in-Some.next c.loop-next.row.items c.step.new.row.items (pending (types_in c.args.table.now) c.args.todo.items []) c.step.new.todo.items c.in-Some.ensures.items (c.in_ok-step.ensures.pending []) c.loop-next.invariant.pending;
  nodes = omega (arith, c.in_ok-step.ensures.nodes, c.in_ok-less.ensures.is, c.loop-next.invariant.nodes);
  within = c.in_ok-step.ensures.within (popped_in (count c.args.table.now) c.loop-next.todo.items c.pop.new.self.items c.in-Some.next c.in-Some.ensures.items c.loop-next.invariant.within);
}

pub loop-next-smaller : goal.loop-next-smaller
loop-next-smaller c =
    subst (λ (z : List Todo). steps_left (types_in c.args.table.now) c.step.new.todo.items < steps_left (types_in c.args.table.now) z) (sym c.in-Some.ensures.items) c.in_ok-step.ensures.fewer

pub returns-clause-is : goal.returns-clause-is
returns-clause-is c =
    let none : length c.loop-next.todo.items ≡ 0 = search rules in
    all_in (types_in c.args.table.now) c.loop-next.todo.items c.loop-next.row.items (pending (types_in c.args.table.now) c.args.todo.items []) (nil_from_length c.loop-next.todo.items none) c.loop-next.invariant.pending

pub returns-clause-small : goal.returns-clause-small
returns-clause-small c =
    let none : length c.loop-next.todo.items ≡ 0 = search rules in
    all_small c.loop-next.row.items (pending (types_in c.args.table.now) c.args.todo.items []) c.loop-next.left
    (all_in (types_in c.args.table.now) c.loop-next.todo.items c.loop-next.row.items (pending (types_in c.args.table.now) c.args.todo.items []) (nil_from_length c.loop-next.todo.items none) c.loop-next.invariant.pending) c.loop-next.invariant.nodes

pub returns-in_err-less-clause-small : goal.returns-in_err-less-clause-small
returns-in_err-less-clause-small c =
    let p = err_from_is_err_and c.from_residual-in_err-less.result c.from_residual-in_err-less.ensures.1 in
    rw (p.1, p.2) (tells_less c.in_err-less.field-0.0 (todo_nodes c.in-Some.next ≤ c.loop-next.left) (nodes_in (pending (types_in c.args.table.now) c.args.todo.items []) ≤ 10000)
    (enough_left (types_in c.args.table.now) c.loop-next.todo.items c.pop.new.self.items c.in-Some.next c.loop-next.row.items (pending (types_in c.args.table.now) c.args.todo.items []) c.loop-next.left c.in-Some.ensures.items c.loop-next.invariant.pending c.loop-next.invariant.nodes) c.in_err-less.ensures.enough)

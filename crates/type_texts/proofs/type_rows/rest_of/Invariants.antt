use Rattle.std.proofs.Common.{◌≡◌, ◌++◌, ◌+◌, []}
use Rattle.type_model.specs.Tables.{types_in, count}
use Rattle.type_texts.specs.Pending.{pending, AreIn, nodes_in, steps_left}
use Rattle.type_texts.proofs.type_rows.rest_of.Given as goal

abbrev pub invariant-loop-next : goal.invariant-loop-next
invariant-loop-next l =
    record {
      pending : l.row.items ++ pending (types_in l.table) l.todo.items [] ≡ pending (types_in l.table) l.fn.todo.items [];
      nodes : nodes_in l.row.items + l.left ≡ 10000;
      within : AreIn (count l.table) l.todo.items;
    }

abbrev pub decreases-loop-next : goal.decreases-loop-next
decreases-loop-next l = steps_left (types_in l.table) l.todo.items

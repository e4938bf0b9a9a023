use Rattle.std.proofs.Common.{List, sym, subst}
use Rattle.type_model.specs.declared.table.TypeTable.{TypeTable}
use Rattle.action_graph.specs.Nodes.{Named}
use Rattle.go_kit.specs.Returning.{AreRead}
use Rattle.go_kit.proofs.storing.released.Goals as goal

pub kept_after-kept-requires-clause-read : goal.kept_after-kept-requires-clause-read
kept_after-kept-requires-clause-read c =
    subst (λ (table : TypeTable). AreRead table c.as_slice.result.now c.args.loaded.env.items) (sym c.table_in-table.ensures)
    (subst (λ (texts : List Named). AreRead c.args.loaded.typed.state.table texts c.args.loaded.env.items) (sym c.as_slice.ensures.value) c.requires.read)

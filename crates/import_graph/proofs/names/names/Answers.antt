use Rattle.std.proofs.Common.{subst}
use Rattle.import_graph.specs.Tables.{AreSorted}
use Rattle.import_graph.proofs.NameLemmas.{sorted-names}
use Rattle.import_graph.proofs.names.names.Goals as goal

pub returns-clause-names : goal.returns-clause-names
returns-clause-names c =
    subst (λ t. AreSorted t c.drop_repeats.new.texts.items) c.in_ok-names.ensures.paths
    (sorted-names c.in_ok-names.names.items c.sort.new.texts.items c.drop_repeats.new.texts.items c.sort.ensures.moved c.sort.ensures.sorted c.drop_repeats.ensures.same)

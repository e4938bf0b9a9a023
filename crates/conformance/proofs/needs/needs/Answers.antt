use Rattle.conformance.proofs.ReadyLemmas.{none_ready}
use Rattle.conformance.proofs.needs.needs.Goals as goal

pub add_files-requires : goal.add_files-requires
add_files-requires c = none_ready c.new-trees.result.items c.new-sources.result.items c.new-trees.ensures.items c.new-sources.ensures.items

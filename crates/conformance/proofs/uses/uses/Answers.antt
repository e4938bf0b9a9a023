use Rattle.conformance.proofs.ReadyLemmas.{none_ready}
use Rattle.conformance.proofs.uses.uses.Goals as goal

pub add_files-requires : goal.add_files-requires
add_files-requires c = none_ready c.new-files.result.items c.new-sources.result.items c.new-files.ensures.items c.new-sources.ensures.items

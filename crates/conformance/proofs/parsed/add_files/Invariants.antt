use Rattle.conformance.specs.Ready.{AreReady}
use Rattle.conformance.proofs.parsed.add_files.Given as goal

abbrev pub invariant-loop-text : goal.invariant-loop-text
invariant-loop-text l = AreReady l.files.items l.sources.items

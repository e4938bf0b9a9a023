use Rattle.std.proofs.Common.{◌≡◌, take, flat_map}
use Rattle.import_graph.specs.Packages.{head_at, lines_in, missing_at}
use Rattle.import_graph.proofs.fault.missing.Given as goal

abbrev pub invariant-loop-n : goal.invariant-loop-n
invariant-loop-n l = l.places.items ≡ flat_map (λ n. flat_map (missing_at l.names n) (lines_in (head_at l.heads n))) (take l.n-index l.files)

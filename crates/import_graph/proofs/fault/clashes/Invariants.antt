use Rattle.std.proofs.Common.{◌≡◌, take, flat_map}
use Rattle.import_graph.specs.Packages.{head_at, clash_in}
use Rattle.import_graph.proofs.fault.clashes.Given as goal

abbrev pub invariant-loop-n : goal.invariant-loop-n
invariant-loop-n l = l.places.items ≡ flat_map (λ n. clash_in l.name n (head_at l.heads n)) (take l.n-index l.files)

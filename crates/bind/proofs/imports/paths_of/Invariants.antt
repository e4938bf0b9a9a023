use Rattle.std.proofs.Common.{◌≡◌, map, take}
use Rattle.bind.proofs.imports.paths_of.Given as goal

abbrev pub invariant-loop-entry : goal.invariant-loop-entry
invariant-loop-entry l = map (λ n. n.now) l.paths.items ≡ map (λ e. e.0) (take l.entry-index l.named)

use Rattle.std.proofs.Common.{◌≡◌, drop}
use Rattle.vet_printf.specs.Verbs.{is_one_of}
use Rattle.vet_printf.proofs.verb.is_one_of.Given as goal

abbrev pub invariant-loop-v : goal.invariant-loop-v
invariant-loop-v l = is_one_of (drop l.v-index l.verbs) l.verb ≡ is_one_of l.verbs l.verb

use Rattle.std.proofs.Common.{◌≡◌, drop}
use Rattle.vet_words.specs.Quiet.{all_quiet}
use Rattle.vet_words.proofs.quiet.all_quiet.Given as goal

abbrev pub invariant-loop-n : goal.invariant-loop-n
invariant-loop-n l = all_quiet l.so_far (drop l.n-index l.list) ≡ all_quiet l.so_far l.list

use Rattle.std.proofs.Common.{◌+◌, ◌*◌}
use Rattle.vet_simple.proofs.chains.+around.Given as goal

abbrev pub decreases-around_by : goal.decreases-around_by
decreases-around_by l = 2 * l.most + 1

abbrev pub decreases-around_from : goal.decreases-around_from
decreases-around_from l = 2 * l.most

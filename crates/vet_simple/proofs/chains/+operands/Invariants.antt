use Rattle.std.proofs.Common.{◌+◌, ◌*◌}
use Rattle.vet_simple.proofs.chains.+operands.Given as goal

abbrev pub decreases-add_side : goal.decreases-add_side
decreases-add_side l = 3 * l.most + 1

abbrev pub decreases-add_sides : goal.decreases-add_sides
decreases-add_sides l = 3 * l.most + 2

abbrev pub decreases-add_operands : goal.decreases-add_operands
decreases-add_operands l = 3 * l.most

use Rattle.std.proofs.Common.{◌-◌, length}
use Rattle.fix_apply.proofs.tree.+search.Given as goal

abbrev pub decreases-search : goal.decreases-search
decreases-search l = length l.nodes.now.items - l.x

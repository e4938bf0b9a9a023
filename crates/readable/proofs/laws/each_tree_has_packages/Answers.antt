use Rattle.readable.proofs.Packages.{has_packages}
use Rattle.readable.proofs.laws.each_tree_has_packages.Goals as goal

pub returns : goal.returns
returns c = has_packages

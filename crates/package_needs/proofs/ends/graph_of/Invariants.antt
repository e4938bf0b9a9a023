use Rattle.std.proofs.Common.{◌≡◌, map, take}
use Rattle.package_needs.specs.Links.{row_of}
use Rattle.package_needs.proofs.ends.graph_of.Given as goal

abbrev pub invariant-loop-link : goal.invariant-loop-link
invariant-loop-link l = l.graph ≡ map row_of (take l.link-index l.links.items)

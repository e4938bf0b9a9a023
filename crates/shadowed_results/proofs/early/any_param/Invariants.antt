use Rattle.std.proofs.Common.{◌≡◌, drop}
use Rattle.shadowed_results.specs.Early.{any_param}
use Rattle.shadowed_results.proofs.early.any_param.Given as goal

abbrev pub invariant-loop-part : goal.invariant-loop-part
invariant-loop-part l = any_param l.nodes (drop l.part-index l.parts) ≡ any_param l.nodes l.parts

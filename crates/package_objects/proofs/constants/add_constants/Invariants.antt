use Rattle.std.proofs.Common.{◌≡◌, ◌++◌}
use Rattle.package_objects.specs.Declares.{gather, const_spec, source_after}
use Rattle.package_objects.proofs.constants.add_constants.Given as goal

abbrev pub invariant-loop-i : goal.invariant-loop-i
invariant-loop-i l = record {
  source : l.source ≡ source_after l.nodes l.node.parts l.i;
  out : l.out.items ≡ l.fn.out.items ++ gather (const_spec l.file l.nodes l.node.parts) l.i;
}

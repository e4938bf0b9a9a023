use Rattle.std.proofs.Common.{◌≡◌, ◌++◌}
use Rattle.package_objects.specs.Declares.{gather, source_after}
use Rattle.const_tree.specs.Constants.{nth_spec}
use Rattle.const_tree.proofs.specs.add_specs.Given as goal

abbrev pub invariant-loop-i : goal.invariant-loop-i
invariant-loop-i l = record {
  source : l.source ≡ source_after l.nodes l.node.parts l.i;
  out : l.out.items ≡ l.fn.out.items ++ gather (nth_spec l.nodes l.node) l.i;
}

use Rattle.std.proofs.Common.{arith}
use Rattle.const_tree.specs.Constants.{values_of}
use Rattle.check_pkg.proofs.ValueLemmas.{value_end}
use Rattle.check_pkg.proofs.places.value_from.Goals as goal

pub returns : goal.returns
returns c =
    value_end (values_of c.args.nodes.now c.args.spec) c.args.node c.loop-value.value c.value_count-count.result c.loop-value.invariant c.value_count-count.ensures (omega arith)

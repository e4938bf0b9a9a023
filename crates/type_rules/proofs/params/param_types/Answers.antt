use Rattle.std.proofs.Common.{[]}
use Rattle.package_objects.proofs.GatherLemmas.{gather_on}
use Rattle.rule_words.specs.Scenes.{parts_in}
use Rattle.type_rules.specs.Signatures.{nth_types}
use Rattle.type_rules.proofs.params.param_types.Goals as goal

pub loop-i-preserved : goal.loop-i-preserved
loop-i-preserved c = record {
  are = gather_on (nth_types c.args.nodes.now c.args.node.now (parts_in c.args.s.now c.args.parts.now)) c.loop-i.i [] _ _ c.loop-i.invariant.are c.in_ok-add_entry.ensures.is;
  below = c.in_ok-add_entry.ensures.below;
}

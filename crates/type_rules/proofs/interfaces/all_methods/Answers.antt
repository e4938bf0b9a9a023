use Rattle.std.proofs.Common.{[]}
use Rattle.package_objects.proofs.GatherLemmas.{gather_on}
use Rattle.unit_read.specs.Subjects.{unit_of}
use Rattle.rule_words.specs.Scenes.{parts_in}
use Rattle.type_rules.specs.Interfaces.{nth_methods}
use Rattle.type_rules.proofs.interfaces.all_methods.Goals as goal

pub loop-i-preserved : goal.loop-i-preserved
loop-i-preserved c = record {
  are = gather_on (nth_methods (unit_of c.args.u.now) c.args.file c.args.node.now (parts_in c.args.s.now c.args.parts.now)) c.loop-i.i [] _ _ c.loop-i.invariant.are c.in_ok-add_part.ensures.is;
  below = c.in_ok-add_part.ensures.below;
}

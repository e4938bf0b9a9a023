use Rattle.std.proofs.Common.{map}
use Rattle.package_objects.proofs.GatherLemmas.{gather_on}
use Rattle.unit_read.specs.Subjects.{unit_of}
use Rattle.rule_words.specs.Scenes.{type_in}
use Rattle.type_rules.specs.Members.{field_in}
use Rattle.type_rules.specs.Structs.{nth_field}
use Rattle.type_rules.proofs.structs.add_names.Goals as goal

pub loop-i-preserved : goal.loop-i-preserved
loop-i-preserved c =
    let s = c.args.s.now in
    record {
      «is» = gather_on (nth_field (unit_of c.args.u.now) c.args.file c.args.nodes.now c.args.node.now (type_in s c.args.of)) c.loop-i.i (map (field_in s) c.args.out.now.items) _ _ c.loop-i.invariant.is c.in_ok-add_nth.ensures.is;
      below = c.in_ok-add_nth.ensures.below;
    }

use Rattle.std.proofs.Common.{ap, ◌∙◌}
use Rattle.package_objects.specs.Declares.{items}
use Rattle.unit_read.specs.Subjects.{unit_of}
use Rattle.type_rules.specs.Structs.{repeats}
use Rattle.type_rules.proofs.FieldLemmas.{repeat_on}
use Rattle.type_rules.proofs.fields.repeat_among.Goals as goal

pub loop-i-preserved : goal.loop-i-preserved
loop-i-preserved c =
    let u = unit_of c.args.u.now in
    repeat_on u c.args.file (items c.args.nodes.now c.args.names) c.loop-i.i _ _ _ c.loop-i.invariant (c.repeats.ensures ∙ ap (repeats u c.args.file) c.item.ensures) c.either-found.ensures

use Rattle.std.proofs.Common.{drop}
use Rattle.scripts.specs.Next.{IsFieldsRead}
use Rattle.scripts.specs.Words.{shape_of}
use Rattle.scripts.specs.declared.fieldset.FieldsRead.TheVariants.{Part}
use Rattle.scripts.proofs.WordLaws.{fields-part}
use Rattle.scripts.proofs.script.command_at_fields.Goals as goal

pub returns-in-Part : goal.returns-in-Part
returns-in-Part c =
    let f : IsFieldsRead (shape_of c.args.word) (drop c.args.at c.args.bytes.now) Part = rw (c.rest_from.ensures, c.shape.ensures) at c.in-Part.ensures in
    fields-part c.args.bytes.now (drop c.args.at c.args.bytes.now) c.args.word c.requires.head f

use Rattle.std.proofs.Common.{drop}
use Rattle.scripts.specs.Fields.{IsBodyField}
use Rattle.scripts.specs.declared.fields.Field.TheVariants.{Part, Other}
use Rattle.scripts.proofs.FileLaws.{file-part-body, file-other-body}
use Rattle.scripts.proofs.fieldset.file_at_body.Goals as goal

pub returns-in-Part : goal.returns-in-Part
returns-in-Part c =
    let f : IsBodyField c.args.count (drop c.args.at c.args.bytes.now) Part = rw c.rest_from-rest.ensures at c.in-Part.ensures in
    file-part-body c.args.bytes.now c.args.path.now (drop c.args.at c.args.bytes.now) c.args.count c.requires.path c.requires.count c.requires.head f

pub returns-in-Other : goal.returns-in-Other
returns-in-Other c =
    let f : IsBodyField c.args.count (drop c.args.at c.args.bytes.now) Other = rw c.rest_from-rest.ensures at c.in-Other.ensures in
    file-other-body c.args.bytes.now c.args.path.now (drop c.args.at c.args.bytes.now) c.args.count c.requires.path c.requires.count c.requires.head f

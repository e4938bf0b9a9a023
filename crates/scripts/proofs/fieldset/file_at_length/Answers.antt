use Rattle.std.proofs.Common.{drop}
use Rattle.scripts.specs.Fields.{IsLengthField}
use Rattle.scripts.specs.declared.fields.Length.TheVariants.{Digits, Wrong}
use Rattle.scripts.proofs.FileLaws.{file-part-length, file-other-length}
use Rattle.scripts.proofs.fieldset.file_at_length.Goals as goal

pub returns-in-Digits : goal.returns-in-Digits
returns-in-Digits c =
    let f : IsLengthField (drop c.args.at c.args.bytes.now) Digits = rw c.rest_from.ensures at c.in-Digits.ensures in
    file-part-length c.args.bytes.now c.args.path.now (drop c.args.at c.args.bytes.now) c.requires.path c.requires.head f

pub returns-in-Wrong : goal.returns-in-Wrong
returns-in-Wrong c =
    let f : IsLengthField (drop c.args.at c.args.bytes.now) Wrong = rw c.rest_from.ensures at c.in-Wrong.ensures in
    file-other-length c.args.bytes.now c.args.path.now (drop c.args.at c.args.bytes.now) c.requires.path c.requires.head f

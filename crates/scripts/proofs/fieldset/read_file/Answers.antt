use Rattle.scripts.proofs.FileLaws.{file-part-path, file-other-path}
use Rattle.scripts.proofs.fieldset.read_file.Goals as goal

pub returns-in-Part : goal.returns-in-Part
returns-in-Part c = file-part-path c.args.bytes.now c.in-Part.ensures

pub returns-in-Other : goal.returns-in-Other
returns-in-Other c = file-other-path c.args.bytes.now c.in-Other.ensures

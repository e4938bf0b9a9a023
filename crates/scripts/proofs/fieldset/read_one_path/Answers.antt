use Rattle.scripts.proofs.FileLaws.{path-part}
use Rattle.scripts.proofs.fieldset.read_one_path.Goals as goal

pub returns-in-Part : goal.returns-in-Part
returns-in-Part c = path-part c.args.bytes.now c.in-Part.ensures

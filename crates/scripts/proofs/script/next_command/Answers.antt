use Rattle.scripts.proofs.WordLaws.{word-part}
use Rattle.scripts.proofs.script.next_command.Goals as goal

pub returns-in-Started : goal.returns-in-Started
returns-in-Started c = word-part c.args.bytes.now c.in-Started.ensures

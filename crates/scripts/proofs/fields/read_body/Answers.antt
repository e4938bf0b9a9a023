use Rattle.scripts.proofs.FieldLaws.{body-part}
use Rattle.scripts.proofs.fields.read_body.Goals as goal

pub returns-then-bytes-count : goal.returns-then-bytes-count
returns-then-bytes-count c = body-part c.args.bytes.now c.args.count c.if-bytes-count.true

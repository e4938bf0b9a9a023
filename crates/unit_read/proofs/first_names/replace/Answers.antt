use Rattle.std.proofs.Common.{Some}
use Rattle.std.proofs.lemmas.Map.Text.{hash_map_updates_str}
use Rattle.unit_read.proofs.first_names.replace.Goals as goal

pub returns-clause-now : goal.returns-clause-now
returns-clause-now g c = λ q. hash_map_updates_str c.args.name.now c.args.names.now c.insert.new.self (Some c.args.value) c.in_ok-was.ensures.updates q

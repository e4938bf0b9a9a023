use Rattle.std.proofs.Common.{Some}
use Rattle.std.proofs.lemmas.Map.Text.{hash_map_updates_str}
use Rattle.bind.proofs.table.keep.Goals as goal

pub returns : goal.returns
returns c = λ q. hash_map_updates_str c.args.name.now c.args.table.now c.insert.new.self (Some c.args.at) c.in_ok-insert.ensures.updates q

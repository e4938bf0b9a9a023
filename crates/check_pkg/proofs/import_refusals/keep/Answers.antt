use Rattle.std.proofs.Common.{Some}
use Rattle.std.proofs.lemmas.Map.Text.{hash_map_updates_str}
use Rattle.check_pkg.proofs.import_refusals.keep.Goals as goal

pub returns : goal.returns
returns c = λ q. hash_map_updates_str c.args.name.now c.args.firsts.now c.insert.new.self (Some c.args.node) c.in_ok-insert.ensures.updates q

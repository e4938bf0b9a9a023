use Rattle.std.proofs.lemmas.Option.{slice_get-get_or}
use Rattle.never_returns.proofs.looks.item_at.Goals as goal

pub returns : goal.returns
returns c = slice_get-get_or c.args.order.now c.args.at _ c.requires

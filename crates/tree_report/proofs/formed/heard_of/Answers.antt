use Rattle.std.proofs.Common.{refl}
use Rattle.tree_report.proofs.HeardLemmas.{heard_form}
use Rattle.tree_report.proofs.formed.heard_of.Goals as goal

pub returns : goal.returns
returns c = heard_form c.args.files.items c.args.files.items c.args.formed refl c.requires

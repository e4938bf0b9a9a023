use Rattle.label_uses.specs.Labels.{is_jump}
use Rattle.label_uses.proofs.NameLemmas.{headed_is}
use Rattle.label_uses.proofs.names.is_jump_name.Goals as goal

pub returns : goal.returns
returns c = headed_is is_jump c.args.nodes.now c.args.heads.now c.args.n c.is_headed.result c.requires.heads c.requires.n c.is_headed.ensures

use Rattle.std.proofs.Common.{map}
use Rattle.literal_rules.specs.Structs.{is_open}
use Rattle.literal_rules.specs.InCode.{field_in}
use Rattle.literal_rules.proofs.AgainLemmas.{all_on}
use Rattle.literal_rules.proofs.structs.are_open.Goals as goal

pub loop-i-preserved : goal.loop-i-preserved
loop-i-preserved c = all_on (is_open c.args.path.now (map (field_in c.args.s.now) c.args.fields.now)) c.loop-i.i c.loop-i.all _ _ c.loop-i.invariant c.is_open.ensures c.both-all.ensures

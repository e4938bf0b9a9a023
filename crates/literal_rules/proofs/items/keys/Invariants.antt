use Rattle.std.proofs.Common.{◌≡◌}
use Rattle.rule_words.specs.Scenes.{sight}
use Rattle.unit_read.specs.Subjects.{unit_of}
use Rattle.rule_words.proofs.PartLemmas.{Rests}
use Rattle.literal_rules.specs.Items.{item_ask}
use Rattle.literal_rules.specs.InCode.{keys_in, AreKeysOf}
use Rattle.literal_rules.proofs.items.keys.Given as goal

abbrev pub invariant-loop-i : goal.invariant-loop-i
invariant-loop-i l = record {
  rests : Rests (sight l.s) (item_ask (unit_of l.u) l.block l.nodes) l.list l.i (keys_in l.s l.out.items);
  over : AreKeysOf l.s l.out.items;
}

use Rattle.std.proofs.Common.{◌≡◌}
use Rattle.unit_read.specs.Subjects.{unit_of}
use Rattle.rule_words.specs.Asking.{part_ask}
use Rattle.rule_words.specs.Scenes.{sight, parts_in, AreSeenOf}
use Rattle.rule_words.proofs.PartLemmas.{Rests}
use Rattle.rule_words.proofs.reading.parts.Given as goal

abbrev pub invariant-loop-i : goal.invariant-loop-i
invariant-loop-i l = record {
  rests : Rests (sight l.s) (part_ask (unit_of l.u) l.stage l.block) l.list l.i (parts_in l.s l.out.items);
  over : AreSeenOf l.s l.out.items;
}

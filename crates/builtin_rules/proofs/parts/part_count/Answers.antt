use Rattle.std.proofs.Common.{sym}
use Rattle.std.proofs.lemmas.List.{length-map}
use Rattle.rule_words.specs.Scenes.{part_in}
use Rattle.builtin_rules.proofs.parts.part_count.Goals as goal

pub returns : goal.returns
returns c = sym (length-map c.args.parts.now (part_in c.args.s.now))

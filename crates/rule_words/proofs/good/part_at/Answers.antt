use Rattle.std.proofs.Common.{sym, ap, ◌∙◌}
use Rattle.std.specs.Option.{option_map_or}
use Rattle.rule_words.specs.Parts.{no_part}
use Rattle.rule_words.specs.Scenes.{part_in}
use Rattle.rule_words.proofs.PartLemmas.{part_among}
use Rattle.rule_words.proofs.good.part_at.Goals as goal

pub returns-in-Some-clause-is : goal.returns-in-Some-clause-is
returns-in-Some-clause-is c = sym (part_among c.args.s.now c.args.parts.now c.args.i ∙ ap (λ o. option_map_or (part_in c.args.s.now) o no_part) (sym c.in-Some.ensures))

pub returns-in-Some-clause-over : goal.returns-in-Some-clause-over
returns-in-Some-clause-over c = c.requires c.args.i c.in-Some.seen (sym c.in-Some.ensures)

pub returns-in-None-clause-is : goal.returns-in-None-clause-is
returns-in-None-clause-is c = sym (part_among c.args.s.now c.args.parts.now c.args.i ∙ ap (λ o. option_map_or (part_in c.args.s.now) o no_part) (sym c.in-None.ensures))

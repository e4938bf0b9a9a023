use Rattle.std.proofs.Common.{option_map, option_and_then, sym, ap, ◌∙◌}
use Rattle.rule_words.specs.Scenes.{said}
use Rattle.rule_words.specs.Good.{known_told}
use Rattle.literal_rules.proofs.ItemLemmas.{nth_said, mark_among}
use Rattle.literal_rules.proofs.items.key_of.Goals as goal

pub known-requires : goal.known-requires
known-requires c = mark_among c.args.s.now c.args.keys.now c.args.i c.in-Some.m c.requires (sym c.nth_mark.ensures ∙ c.in-Some.is)

pub returns-in-Some-clause-is : goal.returns-in-Some-clause-is
returns-in-Some-clause-is c =
    let s = c.args.s.now in
    c.known.ensures.is ∙ sym (ap (option_and_then known_told) (nth_said s c.args.keys.now c.args.i ∙ ap (option_map (said s)) (sym c.nth_mark.ensures ∙ c.in-Some.is)))

pub returns-in-None-clause-is : goal.returns-in-None-clause-is
returns-in-None-clause-is c =
    let s = c.args.s.now in
    sym (ap (option_and_then known_told) (nth_said s c.args.keys.now c.args.i ∙ ap (option_map (said s)) (sym c.nth_mark.ensures ∙ c.in-None.is)))

use Rattle.std.proofs.Common.{option_map, false, not, is_some, sym, ap, ◌∙◌}
use Rattle.std.specs.Option.{option_map_or}
use Rattle.rule_words.specs.Scenes.{said}
use Rattle.rule_words.specs.Good.{known_told}
use Rattle.literal_rules.proofs.ItemLemmas.{nth_said, mark_among}
use Rattle.literal_rules.proofs.items.is_bad_key.Goals as goal

pub is_bad-requires : goal.is_bad-requires
is_bad-requires c = mark_among c.args.s.now c.args.keys.now c.args.i c.in-Some.m c.requires (sym c.nth_mark.ensures ∙ c.in-Some.is)

pub returns-in-Some : goal.returns-in-Some
returns-in-Some c =
    let s = c.args.s.now in
    c.is_bad.ensures ∙ sym (ap (λ o. option_map_or (λ m. not (is_some (known_told m))) o false) (nth_said s c.args.keys.now c.args.i ∙ ap (option_map (said s)) (sym c.nth_mark.ensures ∙ c.in-Some.is)))

pub returns-in-None : goal.returns-in-None
returns-in-None c =
    let s = c.args.s.now in
    sym (ap (λ o. option_map_or (λ m. not (is_some (known_told m))) o false) (nth_said s c.args.keys.now c.args.i ∙ ap (option_map (said s)) (sym c.nth_mark.ensures ∙ c.in-None.is)))

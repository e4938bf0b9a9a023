use Rattle.std.proofs.Common.{option_map, sym, ap, ◌∙◌}
use Rattle.rule_words.specs.Scenes.{type_in}
use Rattle.rule_words.proofs.SceneLemmas.{under_says, under_none, under_waits}
use Rattle.rule_words.proofs.under.under_of.Goals as goal

pub returns-in-Some-clause-is : goal.returns-in-Some-clause-is
returns-in-Some-clause-is c =
    let s = c.args.s.now in
    sym (under_says c.args.u.now s c.requires.scene (type_in s c.args.of) (type_in s c.in-Some.under)
    (sym c.underlying.ensures.is ∙ ap (option_map (type_in s)) c.in-Some.is))

pub returns-in-Some-pending-clause-is : goal.returns-in-Some-pending-clause-is
returns-in-Some-pending-clause-is c =
    let s = c.args.s.now in
    sym (under_waits c.args.u.now s c.requires.scene (type_in s c.args.of) c.in-Some-pending.item (sym c.underlying.ensures.is ∙ ap (option_map (type_in s)) c.in-None.is)
    (λ name named. c.in-Some-pending.ensures.is name named) c.in-Some-pending.ensures.waits)

pub returns-in-None-pending-clause-is : goal.returns-in-None-pending-clause-is
returns-in-None-pending-clause-is c =
    let s = c.args.s.now in
    sym (under_none c.args.u.now s c.requires.scene (type_in s c.args.of) (sym c.underlying.ensures.is ∙ ap (option_map (type_in s)) c.in-None.is)
    (λ name named free. c.pending.ensures.none name named c.in-None-pending.is free))

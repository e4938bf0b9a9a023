use Rattle.std.proofs.Common.{map}
use Rattle.fact_cache.proofs.SpreadingLemmas.{spread-push, spread-same}
use Rattle.fact_cache.proofs.spreading.push_numbered.Goals as goal

pub returns-clause-spread : goal.returns-clause-spread
returns-clause-spread c =
    spread-push c.args.key (map (λ t. t.now) c.args.texts.now.items) (map (λ t. t.now) c.push_both.new.texts.items) c.args.text.now c.args.numbers.now.items c.push_both.new.numbers.items c.args.number
    c.requires.spread c.requires.number c.in_ok-push_both.ensures.texts c.in_ok-push_both.ensures.numbers

pub returns-in_err-push_both-clause-spread : goal.returns-in_err-push_both-clause-spread
returns-in_err-push_both-clause-spread c =
    spread-same c.args.key (map (λ t. t.now) c.args.texts.now.items) (map (λ t. t.now) c.push_both.new.texts.items) c.args.numbers.now.items c.push_both.new.numbers.items
    c.requires.spread c.in_err-push_both.ensures.same_texts c.in_err-push_both.ensures.same_numbers

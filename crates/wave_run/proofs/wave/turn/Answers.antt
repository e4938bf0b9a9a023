use Rattle.std.proofs.Common.{rules, ◌≡◌, ◌<◌, ◌∙◌, Some, length, slice_get, sym, ap, arith}
use Rattle.std.proofs.lemmas.Option.{slice_get-get_or}
use Rattle.wave_run.proofs.Working.{at_some, turned}
use Rattle.wave_run.proofs.wave.turn.Goals as goal

pub returns-in_ok-answer-in-Some-clause-drawn : goal.returns-in_ok-answer-in-Some-clause-drawn
returns-in_ok-answer-in-Some-clause-drawn g c =
    let d = c.draw.ensures.drawn in
    let t = at_some _ _ _ _ c.in-Some.is d.2 in
    let k = c.in_ok-answer-in-Some.ensures.took in
    let job = c.index.result.now in
    let number = c.number-number.result in
    let jobs = c.args.jobs.now.items in
    let same : number ≡ d.0 = c.number-number.ensures ∙ t.0 in
    let low : d.0 < length jobs = search (rules, t) in
    let at : slice_get jobs number ≡ Some job = slice_get-get_or jobs number job (omega (arith, same, low)) ∙ ap (λ x. Some x) (sym c.index.ensures) in
    (d.0, d.1, turned _ _ _ _ _ d.0 number _ _ job _ k.0 same low at k.1 k.2 c.in_ok-answer-in-Some.ensures.can k.3)

use Rattle.std.proofs.Common.{take, drop, refl}
use Rattle.std.proofs.lemmas.List.{take-append-drop}
use Rattle.top_calls.proofs.lines.say.Goals as goal

pub returns-in-Err-Failed-clause-says : goal.returns-in-Err-Failed-clause-says
returns-in-Err-Failed-clause-says g c =
    let part = c.write_all.ensures.part in
    record { said = take part.count c.args.text.now; says = part.taken; leaves = ((drop part.count c.args.text.now, take-append-drop part.count c.args.text.now), refl, refl, refl) }

pub returns-in-Err-Stuck-clause-says : goal.returns-in-Err-Stuck-clause-says
returns-in-Err-Stuck-clause-says g c =
    let part = c.write_all.ensures.part in
    record { said = take part.count c.args.text.now; says = part.taken; leaves = ((drop part.count c.args.text.now, take-append-drop part.count c.args.text.now), refl, refl, refl) }

use Rattle.std.proofs.Common.{rules, refl, ◌≡◌, [], subst}
use Rattle.top_calls.specs.declared.stop.Cut.TheVariants.{Memory}
use Rattle.scripts.specs.declared.halt.Halt.TheVariants.{Refused}
use Rattle.top_calls.specs.Ends.{refusal}
use Rattle.top_calls.specs.Turn.{unlined, SaysLast}
use Rattle.gv_base.proofs.Known.{Appends-none}
use Rattle.top_calls.proofs.lines.refuse.Goals as goal

pub returns-in-Ok-clause-says : goal.returns-in-Ok-clause-says
returns-in-Ok-clause-says g c =
    let e : c.as_bytes.result.now ≡ refusal c.args.session.now.offset = search rules in
    subst (λ z. SaysLast (g.O.Sink.view c.args.output.now) (g.O.Sink.view c.say_last.new.output) z Refused c.args.session.now.desk.found c.say_last.result) e c.say_last.ensures.says

pub returns-in-Err-clause-says : goal.returns-in-Err-clause-says
returns-in-Err-clause-says g c = record { said = []; says = Appends-none (g.O.Sink.view c.args.output.now).held; lines = unlined Memory refl refl (refusal c.args.session.now.offset, refl) }

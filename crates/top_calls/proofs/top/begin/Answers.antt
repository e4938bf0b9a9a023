use Rattle.std.proofs.Common.{arith, ◌≡◌, [], refl, sym, ◌∙◌, subst}
use Rattle.std.specs.Prelude.{Result, Err}
use Rattle.top_calls.specs.declared.session.Session.{Session}
use Rattle.top_calls.specs.declared.stop.Cut.{Cut}
use Rattle.top_calls.specs.declared.stop.Cut.TheVariants.{Source, Sink, Stalled}
use Rattle.top_calls.specs.Ends.{Fetching}
use Rattle.top_calls.specs.Desk.{IsHeld, greeting_of}
use Rattle.gv_base.proofs.Known.{Appends-none}
use Rattle.top_calls.proofs.KeepLaws.{not-allowed}
use Rattle.top_calls.proofs.BeginLaws.{told, IsHeld-told, HasEnded-unopened, HasEnded-greeted, Stands-begun}
use Rattle.top_calls.proofs.top.begin.Goals as goal

same-cut : (a b : Cut) → ◌≡◌ {A = Result Session Cut} (Err a) (Err b) → a ≡ b
same-cut a b e = cc

pub returns-in-Err-clause-begins : goal.returns-in-Err-clause-begins
returns-in-Err-clause-begins g c =
    let held = (g.K.Keeper.view c.args.keeper.now).kept in
    record {
      said = [];
      says = Appends-none (g.O.Sink.view c.args.output.now).held;
      kept = told held;
      held_is = IsHeld-told held;
      goes = λ options left kits. HasEnded-unopened options (told held) left kits (g.K.Keeper.view c.open.new.keeper).kept c.in-Err.cut (c.in-Err.ensures.failed c.in-Err.cut refl) (subst (λ z. IsHeld z (told held)) (sym c.in-Err.ensures.kept) (IsHeld-told held));
    }

pub returns-in-Err-clause-sink_fault : goal.returns-in-Err-clause-sink_fault
returns-in-Err-clause-sink_fault g c = record { later = omega arith; cause = λ e. absurd (not-allowed c.in-Err.cut Sink Fetching refl (c.in-Err.ensures.failed c.in-Err.cut refl) (same-cut c.in-Err.cut Sink e)) }

pub returns-in-Err-clause-stalled : goal.returns-in-Err-clause-stalled
returns-in-Err-clause-stalled g c = record { later = omega arith; cause = λ e. absurd (not-allowed c.in-Err.cut Stalled Fetching refl (c.in-Err.ensures.failed c.in-Err.cut refl) (same-cut c.in-Err.cut Stalled e)) }

pub returns-in-Err-clause-others : goal.returns-in-Err-clause-others
returns-in-Err-clause-others g c = λ e. not-allowed c.in-Err.cut Source Fetching refl (c.in-Err.ensures.failed c.in-Err.cut refl) (same-cut c.in-Err.cut Source e)

pub returns-in-Err-say-clause-begins : goal.returns-in-Err-say-clause-begins
returns-in-Err-say-clause-begins g c =
    let f = c.in-Ok.ensures.finds in
    let r = c.in-Err-say.ensures.says in
    record {
      said = r.said;
      says = r.says;
      kept = f.kept;
      held_is = f.holds;
      goes = λ options left kits. HasEnded-greeted options f.kept left kits (g.K.Keeper.view c.open.new.keeper).kept c.in-Err-say.cut c.in-Ok.opening.cache (greeting_of c.in-Ok.opening.ignored) r.said r.leaves.3 f.opens (let p = r.leaves.0 in (p.0, p.1 ∙ c.greeting.ensures)) (subst (λ z. IsHeld z f.kept) (sym c.in-Ok.ensures.kept) f.holds);
    }

pub returns-in-Ok-say-clause-begins : goal.returns-in-Ok-say-clause-begins
returns-in-Ok-say-clause-begins g c =
    let f = c.in-Ok.ensures.finds in
    let r = c.in-Ok-say.ensures.says in
    record {
      said = r.said;
      says = r.says;
      kept = f.kept;
      held_is = f.holds;
      goes = λ options left kits. Stands-begun options f.kept r.said c.new.result kits (g.K.Keeper.view c.open.new.keeper).kept c.in-Ok.opening.cache (greeting_of c.in-Ok.opening.ignored) f.opens (r.leaves ∙ c.greeting.ensures) (c.new.ensures.standing f.kept) c.new.ensures.pending c.new.ensures.offset (subst (λ z. IsHeld z f.kept) (sym c.in-Ok.ensures.kept) f.holds);
    }

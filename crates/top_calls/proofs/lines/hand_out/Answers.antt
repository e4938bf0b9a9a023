use Rattle.std.proofs.Common.{refl, ◌∙◌, ◌≡◌, Some, Option}
use Rattle.top_calls.specs.declared.stop.Stop.{Stop}
use Rattle.top_calls.specs.declared.stop.Stop.TheVariants.{Broken}
use Rattle.top_calls.specs.declared.stop.Cut.{Cut}
use Rattle.top_calls.specs.declared.stop.Cut.TheVariants.{Sink, Stalled}
use Rattle.top_calls.specs.Ends.{Storing}
use Rattle.top_calls.specs.Turn.{untold, unkept}
use Rattle.top_calls.proofs.KeepLaws.{not-allowed}
use Rattle.top_calls.proofs.lines.hand_out.Goals as goal

same-cut : (a b : Cut) → ◌≡◌ {A = Option Stop} (Some (Broken a)) (Some (Broken b)) → a ≡ b
same-cut a b e = cc

pub returns-in-Err-clause-hands : goal.returns-in-Err-clause-hands
returns-in-Err-clause-hands g c = let r = c.in-Err.ensures.says in record { said = r.said; says = r.says; hands = untold c.in-Err.cut refl r.leaves.1 (let p = r.leaves.0 in (p.0, p.1 ∙ c.as_slice.ensures)) refl }

pub returns-in-Err-keep-clause-hands : goal.returns-in-Err-keep-clause-hands
returns-in-Err-keep-clause-hands g c =
    let r = c.in_default.ensures.says in
    let f = c.in-Err-keep.ensures.failed c.in-Err-keep.cut refl in
    record { said = r.said; says = r.says; hands = unkept c.in-Err-keep.cut refl f.allowed (r.leaves ∙ c.as_slice.ensures) c.if-answer.true f.either }

pub returns-in-Err-keep-clause-sink_fault : goal.returns-in-Err-keep-clause-sink_fault
returns-in-Err-keep-clause-sink_fault g c =
    let f = c.in-Err-keep.ensures.failed c.in-Err-keep.cut refl in
    record { later = c.in_default.ensures.sink_fault.later; cause = λ e. absurd (not-allowed c.in-Err-keep.cut Sink Storing refl f.allowed (same-cut c.in-Err-keep.cut Sink e)) }

pub returns-in-Err-keep-clause-stalled : goal.returns-in-Err-keep-clause-stalled
returns-in-Err-keep-clause-stalled g c =
    let f = c.in-Err-keep.ensures.failed c.in-Err-keep.cut refl in
    record { later = c.in_default.ensures.stalled.later; cause = λ e. absurd (not-allowed c.in-Err-keep.cut Stalled Storing refl f.allowed (same-cut c.in-Err-keep.cut Stalled e)) }

use Rattle.std.proofs.Common.{arith, refl, ◌<◌, ◌≡◌, [], length, List, ℕ, ◌∷◌}
use Rattle.std.proofs.lemmas.List.{append-nil}
use Rattle.scripts.specs.declared.halt.Halt.TheVariants.{Ended, Refused}
use Rattle.top_calls.specs.declared.stop.Stop.TheVariants.{Halted}
use Rattle.scripts.specs.Reading.{at_end}
use Rattle.top_calls.specs.Turn.{lined}
use Rattle.gv_base.proofs.Known.{Appends-none}
use Rattle.top_calls.proofs.Steps.{ends-halted, IsRefused-cut}
use Rattle.top_calls.proofs.top.finish.Goals as goal

empty-list : (xs : List ℕ) → length xs ≡ 0 → xs ≡ []
empty-list [] e = refl
empty-list (x ∷ xs) e = absurd (omega arith)

pub returns-then-count-eq0-clause-finishes : goal.returns-then-count-eq0-clause-finishes
returns-then-count-eq0-clause-finishes g c =
    let session = c.args.session.now in
    let n = c.count.ensures in
    let e : session.pending ≡ [] = empty-list session.pending (omega (arith, c.if-count-eq0.true)) in
    record {
      said = [];
      says = Appends-none (g.O.Sink.view c.args.output.now).held;
      goes = λ options kits held kept loads runs given out left s a. rw (append-nil given) at (ends-halted session left [] [] Ended (Halted Ended session.desk.found) s (rw (append-nil session.pending) (at_end e a)) (lined refl refl));
    }

pub returns-else-count-eq0-clause-finishes : goal.returns-else-count-eq0-clause-finishes
returns-else-count-eq0-clause-finishes g c =
    let session = c.args.session.now in
    let r = c.refuse.ensures.says in
    let n = c.count.ensures in
    let some : 0 < length session.pending = omega (arith, c.if-count-eq0.false) in
    record {
      said = r.said;
      says = r.says;
      goes = λ options kits held kept loads runs given out left s a. rw (append-nil given) at (ends-halted session left [] r.said Refused c.refuse.result s (rw (append-nil session.pending) (IsRefused-cut session left c.requires some a)) r.lines);
    }

use Rattle.std.proofs.Common.{arith, refl, ap, [], false}
use Rattle.std.specs.Prelude.{Err}
use Rattle.std.proofs.lemmas.List.{append-nil}
use Rattle.scripts.specs.declared.script.Next.TheVariants.{Whole, Refused as RefusedNext, NeedMore}
use Rattle.scripts.specs.declared.halt.Halt.TheVariants.{Ended, Refused, TooLong}
use Rattle.top_calls.specs.declared.stop.Cut.TheVariants.{Source, Memory, Circle}
use Rattle.top_calls.specs.declared.stop.Stop.TheVariants.{Halted}
use Rattle.scripts.specs.Next.{IsNext, command_of}
use Rattle.scripts.specs.Script.{spelling}
use Rattle.top_calls.specs.Turn.{lined}
use Rattle.gv_base.proofs.Known.{Appends-none, Consumes-none}
use Rattle.top_calls.proofs.RunsLaws.{RunLaws}
use Rattle.scripts.proofs.ReadOnLaws.{not-true}
use Rattle.top_calls.proofs.Steps.{begins-behind, circular-at, ends-halted, ends-idle, ends-running, steps-on, takes-on, same-on, within-limit, IsEnding-of, IsRefused-none, IsPastLimit-of}
use Rattle.top_calls.proofs.TurnLaws.{none-some, handed-length, piece-length}
use Rattle.scripts.proofs.WordLaws.{nonempty}
use Rattle.top_calls.proofs.WorkersLaws.{did-by-command, did-within}
use Rattle.top_calls.proofs.top.turn.Goals as goal

pub returns-then-is_end-clause-turns : goal.returns-then-is_end-clause-turns
returns-then-is_end-clause-turns g c =
    let source = g.I.Source.view c.args.input.now in
    let session = c.args.session.now in record {
      given = [];
      said = [];
      takes = Consumes-none source.left;
      counts = omega arith;
      within = let w = within-limit c.args.session.now in omega arith;
      moves = λ e. none-some _ e;
      says = Appends-none (g.O.Sink.view c.args.output.now).held;
      goes = λ kept loads runs before out s.
          let next : IsNext session.pending (Whole c.in-Whole.command c.in-Whole.len) = rw c.as_slice.ensures at c.in-Whole.ensures in
          ends-halted session source.left [] [] Ended (Halted Ended session.desk.found) s (rw (append-nil session.pending) (IsEnding-of session c.in-Whole.command c.in-Whole.len source.left next (c.if-is_end.ensures.0 refl))) (lined refl refl);
    }

pub returns-in-Ok-clause-turns : goal.returns-in-Ok-clause-turns
returns-in-Ok-clause-turns g c =
    let source = g.I.Source.view c.args.input.now in
    let session = c.args.session.now in
    let r = c.hand_out.ensures.hands in
    let l = c.one_report_of_a_tree.ensures in
    let law : RunLaws = record { report = l.report; cache = l.cache; fresh = l.fresh; honest = l.honest; text = l.text; value = l.value } in record {
      given = [];
      said = r.said;
      takes = Consumes-none source.left;
      counts = omega arith;
      within = let w = within-limit c.args.session.now in omega arith;
      moves = λ e.
          let next : IsNext session.pending (Whole c.in-Whole.command c.in-Whole.len) = rw c.as_slice.ensures at c.in-Whole.ensures in
          let st = c.hand_out.ensures.step e in
          handed-length session.offset c.in-Whole.len c.hand_out.new.session.offset session.pending c.hand_out.new.session.pending (spelling (command_of c.in-Whole.command)) next.0.spelled next.1 st.0 st.1;
      says = r.says;
      goes = λ kept loads runs before out s.
          let next : IsNext session.pending (Whole c.in-Whole.command c.in-Whole.len) = rw c.as_slice.ensures at c.in-Whole.ensures in
          rw (append-nil before) (steps-on law session _ c.hand_out.new.session source.left _ (g.K.Keeper.view c.hand_out.new.keeper).kept c.in-Whole.command c.in-Whole.len c.in-Ok.answer r.said c.hand_out.result s next (λ e. not-true false refl (c.if-is_end.ensures.1 e)) c.in-Ok.ensures.serves refl refl r.hands);
    }

pub returns-in-Err-NoMemory-clause-turns : goal.returns-in-Err-NoMemory-clause-turns
returns-in-Err-NoMemory-clause-turns g c =
    let source = g.I.Source.view c.args.input.now in
    let session = c.args.session.now in record {
      given = [];
      said = [];
      takes = Consumes-none source.left;
      counts = omega arith;
      within = let w = within-limit c.args.session.now in omega arith;
      moves = λ e. none-some _ e;
      says = Appends-none (g.O.Sink.view c.args.output.now).held;
      goes = λ kept loads runs before out s.
          let next : IsNext session.pending (Whole c.in-Whole.command c.in-Whole.len) = rw c.as_slice.ensures at c.in-Whole.ensures in
          rw (append-nil before) (ends-running session source.left _ c.in-Whole.command c.in-Whole.len Memory s next (λ e. not-true false refl (c.if-is_end.ensures.1 e)) refl refl tt c.in-Err-NoMemory.ensures.tries);
    }

pub returns-in-Err-Stuck-clause-turns : goal.returns-in-Err-Stuck-clause-turns
returns-in-Err-Stuck-clause-turns g c =
    let source = g.I.Source.view c.args.input.now in
    let session = c.args.session.now in record {
      given = [];
      said = [];
      takes = Consumes-none source.left;
      counts = omega arith;
      within = let w = within-limit c.args.session.now in omega arith;
      moves = λ e. none-some _ e;
      says = Appends-none (g.O.Sink.view c.args.output.now).held;
      goes = λ kept loads runs before out s.
          let next : IsNext session.pending (Whole c.in-Whole.command c.in-Whole.len) = rw c.as_slice.ensures at c.in-Whole.ensures in
          rw (append-nil before) (ends-running session source.left _ c.in-Whole.command c.in-Whole.len Circle s next (λ e. not-true false refl (c.if-is_end.ensures.1 e)) refl refl
          (circular-at session c.in-Whole.command c.in-Whole.len s next (λ e. not-true false refl (c.if-is_end.ensures.1 e)) (λ h. c.in-Err-Stuck.ensures.circle h (ap Err c.in-Err-Stuck.field-0-is))) c.in-Err-Stuck.ensures.tries);
    }

pub returns-in-Refused-clause-turns : goal.returns-in-Refused-clause-turns
returns-in-Refused-clause-turns g c =
    let source = g.I.Source.view c.args.input.now in
    let session = c.args.session.now in
    let r = c.refuse.ensures.says in record {
      given = [];
      said = r.said;
      takes = Consumes-none source.left;
      counts = omega arith;
      within = let w = within-limit c.args.session.now in omega arith;
      moves = λ e. none-some _ e;
      says = r.says;
      goes = λ kept loads runs before out s.
          let none : IsNext session.pending RefusedNext = rw c.as_slice.ensures at c.in-Refused.ensures in
          ends-halted session source.left [] r.said Refused c.refuse.result s (rw (append-nil session.pending) (IsRefused-none session source.left none)) r.lines;
    }

pub returns-in-More-clause-turns : goal.returns-in-More-clause-turns
returns-in-More-clause-turns g c =
    let r = c.in-More.ensures.takes in record {
      given = r.given;
      said = [];
      takes = r.takes;
      counts = r.counts;
      within = r.within;
      moves = λ e. piece-length c.args.session.now.offset c.take_piece.new.session.offset c.args.session.now.pending c.take_piece.new.session.pending r.given r.leaves.0 r.leaves.3;
      says = Appends-none (g.O.Sink.view c.args.output.now).held;
      goes = λ kept loads runs before out s. takes-on c.args.session.now c.take_piece.new.session r.given s r.leaves.0 r.leaves.2 r.leaves.3;
    }

pub returns-in-Over-clause-turns : goal.returns-in-Over-clause-turns
returns-in-Over-clause-turns g c =
    let session = c.args.session.now in
    let r = c.in-Over.ensures.takes in record {
      given = r.given;
      said = [];
      takes = r.takes;
      counts = r.counts;
      within = r.within;
      moves = λ e. none-some _ e;
      says = Appends-none (g.O.Sink.view c.args.output.now).held;
      goes = λ kept loads runs before out s.
          let begun : IsNext session.pending NeedMore = rw c.as_slice.ensures at c.in-NeedMore.ensures in
          let one = r.leaves.0 in
          rw r.leaves.2 (ends-halted session (g.I.Source.view c.take_piece.new.input).left r.given [] TooLong (Halted TooLong session.desk.found) s (IsPastLimit-of session r.given begun r.leaves.1 (omega arith)) (lined refl refl));
    }

pub returns-in-Full-clause-turns : goal.returns-in-Full-clause-turns
returns-in-Full-clause-turns g c =
    let r = c.in-Full.ensures.takes in record {
      given = r.given;
      said = [];
      takes = r.takes;
      counts = r.counts;
      within = r.within;
      moves = λ e. none-some _ e;
      says = Appends-none (g.O.Sink.view c.args.output.now).held;
      goes = λ kept loads runs before out s. ends-idle c.args.session.now (g.I.Source.view c.take_piece.new.input).left r.given Memory s refl tt;
    }

pub returns-in-AtEnd-clause-turns : goal.returns-in-AtEnd-clause-turns
returns-in-AtEnd-clause-turns g c =
    let r = c.in-AtEnd.ensures.takes in
    let f = c.finish.ensures.finishes in record {
      given = r.given;
      said = f.said;
      takes = r.takes;
      counts = r.counts;
      within = r.within;
      moves = λ e. none-some _ e;
      says = f.says;
      goes = λ kept loads runs before out s.
          rw (r.leaves.0, append-nil before) (f.goes c.args.options.now _ (g.K.Keeper.view c.args.keeper.now).kept kept loads runs before out (g.I.Source.view c.take_piece.new.input).left (same-on c.args.session.now c.take_piece.new.session s r.leaves.3 r.leaves.2 r.leaves.4) r.leaves.1);
    }

pub returns-in-Fault-clause-turns : goal.returns-in-Fault-clause-turns
returns-in-Fault-clause-turns g c =
    let session = c.args.session.now in
    let r = c.in-Fault.ensures.takes in record {
      given = r.given;
      said = [];
      takes = r.takes;
      counts = r.counts;
      within = r.within;
      moves = λ e. none-some _ e;
      says = Appends-none (g.O.Sink.view c.args.output.now).held;
      goes = λ kept loads runs before out s.
          let begun : IsNext session.pending NeedMore = rw c.as_slice.ensures at c.in-NeedMore.ensures in
          ends-idle session (g.I.Source.view c.take_piece.new.input).left r.given Source s refl (begins-behind session r.given s begun r.leaves);
    }

pub apply-requires-clause-room : goal.apply-requires-clause-room
apply-requires-clause-room g c = λ κs _. did-within g.W.Kit.loads g.W.Kit.runs c.args.session.now.offset c.args.kits.now (let w = within-limit c.args.session.now in omega (arith, w)) c.requires.room

pub returns-in-Ok-clause-room : goal.returns-in-Ok-clause-room
returns-in-Ok-clause-room g c = λ e.
    let next : IsNext c.args.session.now.pending (Whole c.in-Whole.command c.in-Whole.len) = rw c.as_slice.ensures at c.in-Whole.ensures in
    let some = nonempty (command_of c.in-Whole.command) in
    did-by-command g.W.Kit.loads g.W.Kit.runs c.args.session.now.offset c.in-Whole.len c.hand_out.new.session.offset c.args.kits.now c.apply.new.kits (omega (arith, some, next.1)) (c.hand_out.ensures.step e).0 c.apply.ensures.least c.apply.ensures.bound c.requires.room

pub returns-in-More-clause-room : goal.returns-in-More-clause-room
returns-in-More-clause-room g c = λ e. rw c.in-More.ensures.takes.leaves.3 c.requires.room

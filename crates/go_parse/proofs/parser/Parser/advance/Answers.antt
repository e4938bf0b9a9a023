use Rattle.std.proofs.Common.{◌≡◌, ◌-◌, ◌∙◌, ◌<◌, ℕ, List, [], Some, length, ap, refl, sym, subst}
use Rattle.std.specs.Prelude.{IfNone}
use Rattle.go_tree.specs.Classes.{next}
use Rattle.go_parse.specs.State.{State, Goes, Takes, Refuses, Holds, Leads}
use Rattle.go_parse.specs.Machine.{state_of, topped}
use Rattle.go_parse.proofs.Steps.{turns}
use Rattle.go_parse.proofs.Advance.{stays, fits, fits_heights, fits_kinds}
use Rattle.go_parse.proofs.Running.{answered, run_led, run_shorter}
use Rattle.go_parse.proofs.parser.Parser.advance.Goals as goal

pub loop-next-init : goal.loop-next-init
loop-next-init c =
    let h = c.requires.5 in
    record {
      holds = (c.requires.2, subst (λ s. Holds s c.requires.2) (sym c.follow-next.ensures.same) h);
      leads = λ n xs q a. stays n xs (state_of c.args.self.now) (topped c.follow-next.result (state_of c.follow-next.new.self)) c.follow-next.ensures.same;
      class = c.follow-next.ensures.class;
      none = c.follow-next.ensures.none;
    }

pub turn-requires-clause-pending : goal.turn-requires-clause-pending
turn-requires-clause-pending c =
    let h = c.loop-next.invariant.holds in
    fits c.in-Some.item (state_of c.loop-next.self) h.0 _ (subst (λ o. Holds (topped o (state_of c.loop-next.self)) h.0) c.in-Some.is h.1) refl

pub turn-requires-clause-heights : goal.turn-requires-clause-heights
turn-requires-clause-heights c =
    let h = c.loop-next.invariant.holds in
    fits_heights c.in-Some.item (state_of c.loop-next.self) h.0 _ (subst (λ o. Holds (topped o (state_of c.loop-next.self)) h.0) c.in-Some.is h.1) refl

pub turn-requires-clause-kinds : goal.turn-requires-clause-kinds
turn-requires-clause-kinds c =
    let h = c.loop-next.invariant.holds in
    fits_kinds c.in-Some.item (state_of c.loop-next.self) h.0 _ (subst (λ o. Holds (topped o (state_of c.loop-next.self)) h.0) c.in-Some.is h.1) refl

pub loop-next-smaller : goal.loop-next-smaller
loop-next-smaller c =
    let t = answered c.in-Some.item c.loop-next.self.class c.args.class c.args.at (state_of c.loop-next.self) (state_of c.turn.new.self) _ _ c.loop-next.invariant.class c.in-Goes.is c.in_ok-above.ensures.led in
    let l = run_shorter c.in-Some.item c.args.class c.args.at (state_of c.loop-next.self) (topped c.in-Goes.above (state_of c.turn.new.self)) t in
    let after : turns (topped c.follow-next-in-Goes.result (state_of c.follow-next-in-Goes.new.self)).stack ≡ turns (topped c.in-Goes.above (state_of c.turn.new.self)).stack = ap (λ (s : State). turns s.stack) c.follow-next-in-Goes.ensures.same in
    let before : turns (topped c.loop-next.next (state_of c.loop-next.self)).stack ≡ turns (topped (Some c.in-Some.item) (state_of c.loop-next.self)).stack = ap (λ o. turns (topped o (state_of c.loop-next.self)).stack) c.in-Some.is in
    subst (λ m. m < turns (topped c.loop-next.next (state_of c.loop-next.self)).stack) (sym after) (subst (λ m. turns (topped c.in-Goes.above (state_of c.turn.new.self)).stack < m) (sym before) l)

pub loop-next-preserved : goal.loop-next-preserved
loop-next-preserved c =
    let t = answered c.in-Some.item c.loop-next.self.class c.args.class c.args.at (state_of c.loop-next.self) (state_of c.turn.new.self) _ _ c.loop-next.invariant.class c.in-Goes.is c.in_ok-above.ensures.led in
    let leads : (n : ℕ) (xs : List ℕ) → next xs ≡ c.args.class → c.args.at ≡ n - length xs → Leads n xs (state_of c.args.self.now) (topped c.in-Goes.above (state_of c.turn.new.self)) =
    (λ n xs q a. run_led n xs c.args.class c.args.at c.loop-next.next c.in-Some.item (state_of c.args.self.now) (state_of c.loop-next.self) (Goes (topped c.in-Goes.above (state_of c.turn.new.self))) q a c.in-Some.is (c.loop-next.invariant.leads n xs q a) t) in
    let r = c.requires in
    let l = leads r.0 r.1 r.3 r.4 r.2 r.5 in
    let same = sym c.follow-next-in-Goes.ensures.same in
    record {
      holds = (l.g', subst (λ s. Holds s l.g') same l.holds);
      leads = λ n xs q a. subst (λ s. Leads n xs (state_of c.args.self.now) s) same (leads n xs q a);
      class = c.follow-next-in-Goes.ensures.class ∙ (c.turn.ensures.class ∙ c.loop-next.invariant.class);
      none = c.follow-next-in-Goes.ensures.none;
    }

pub returns-in-Takes : goal.returns-in-Takes
returns-in-Takes c =
    let t = answered c.in-Some.item c.loop-next.self.class c.args.class c.args.at (state_of c.loop-next.self) (state_of c.turn.new.self) _ _ c.loop-next.invariant.class c.in-Takes.is c.in_ok-above.ensures.led in
    λ n xs q a. run_led n xs c.args.class c.args.at c.loop-next.next c.in-Some.item (state_of c.args.self.now) (state_of c.loop-next.self) (Takes (state_of c.turn.new.self)) q a c.in-Some.is (c.loop-next.invariant.leads n xs q a) t

pub returns-in-Refuses : goal.returns-in-Refuses
returns-in-Refuses c =
    let t = answered c.in-Some.item c.loop-next.self.class c.args.class c.args.at (state_of c.loop-next.self) (state_of c.turn.new.self) _ _ c.loop-next.invariant.class c.in-Refuses.is c.in_ok-above.ensures.led in
    λ n xs q a. run_led n xs c.args.class c.args.at c.loop-next.next c.in-Some.item (state_of c.args.self.now) (state_of c.loop-next.self) Refuses q a c.in-Some.is (c.loop-next.invariant.leads n xs q a) t

pub returns : goal.returns
returns c = λ n xs q a. (
  subst (λ o. Leads n xs (state_of c.args.self.now) (topped o (state_of c.loop-next.self))) c.in_default.is (c.loop-next.invariant.leads n xs q a),
  subst (λ o. IfNone o ((state_of c.loop-next.self).stack ≡ [])) c.in_default.is c.loop-next.invariant.none,
)

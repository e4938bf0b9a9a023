use Rattle.std.proofs.Common.{◌<◌, ◌≤◌, map, length, sym, subst}
use Rattle.fact_cache.specs.Kept.{IsAbsent}
use Rattle.fact_cache.specs.Inputs.{Text}
use Rattle.fact_cache.proofs.ListFacts.{length-mapped}
use Rattle.fact_cache.proofs.RestoreLemmas.{apart-turn, hold-turn, not-apart, all-taken, all-apart}
use Rattle.fact_cache.proofs.restore.hold_texts.Goals as goal

pub loop-i-preserved : goal.loop-i-preserved
loop-i-preserved c =
    let inside : c.loop-i.i < length (map (λ t. t.now) c.args.texts.now) = subst (λ k. c.loop-i.i < k) (sym (length-mapped (λ t. t.now) c.args.texts.now)) c.loop-i-test.true in
    let held = c.in_ok-fresh.ensures.held c.if-not-fresh.false in (
      c.hold_text.ensures.mixed,
      hold-turn c.args.kept.now c.loop-i.kept c.hold_text.new.kept (map (λ t. t.now) c.args.texts.now) c.loop-i.i c.loop-i.places.items c.hold_text.new.places.items c.nth_text-text.result.now
          c.loop-i.invariant.1 inside c.nth_text-text.ensures held.1,
      apart-turn c.args.kept.now c.loop-i.kept (map (λ t. t.now) c.args.texts.now) c.loop-i.places.items c.loop-i.i
          c.loop-i.invariant.1 inside (subst (λ (t : Text). IsAbsent c.loop-i.kept t) c.nth_text-text.ensures held.0) c.loop-i.invariant.2,
    )

pub returns-then-not-fresh-clause-same : goal.returns-then-not-fresh-clause-same
returns-then-not-fresh-clause-same c = λ f apart.
    let inside : c.loop-i.i < length (map (λ t. t.now) c.args.texts.now) = subst (λ k. c.loop-i.i < k) (sym (length-mapped (λ t. t.now) c.args.texts.now)) c.loop-i-test.true in
    not-apart c.args.kept.now c.loop-i.kept (map (λ t. t.now) c.args.texts.now) c.loop-i.places.items c.loop-i.i c.nth_text-text.result.now
    c.requires.empty c.loop-i.invariant.1 inside c.nth_text-text.ensures (c.in_ok-fresh.ensures.there c.if-not-fresh.true) apart

pub returns-clause-taken : goal.returns-clause-taken
returns-clause-taken c = λ t. all-taken c.args.kept.now c.loop-i.kept (map (λ t. t.now) c.args.texts.now) c.loop-i.i c.loop-i.places.items (subst (λ k. k ≤ c.loop-i.i) (sym (length-mapped (λ t. t.now) c.args.texts.now)) c.loop-i-test.false) c.loop-i.invariant.1

pub returns-clause-apart : goal.returns-clause-apart
returns-clause-apart c = λ t. all-apart (map (λ t. t.now) c.args.texts.now) c.loop-i.i (subst (λ k. k ≤ c.loop-i.i) (sym (length-mapped (λ t. t.now) c.args.texts.now)) c.loop-i-test.false) c.loop-i.invariant.2

use Rattle.std.proofs.Common.{◌≡◌, ◌-◌, ℕ, length, map, drop, sym, ◌∙◌, subst, arith}
use Rattle.bind.specs.Places.{placed, place_from}
use Rattle.bind.proofs.StepLemmas.{none_placed, place_more, place_none}
use Rattle.bind.proofs.places.places.Goals as goal

pub loop-left-init : goal.loop-left-init
loop-left-init c = record {
  within = omega arith;
  so_far = λ q. none_placed c.new-places.result c.new-places.ensures.empty q ∙ sym (place_none c.args.names.now (length c.args.names.now) q (omega arith));
}

pub loop-left-preserved : goal.loop-left-preserved
loop-left-preserved c = record {
  within = (let w = c.loop-left.invariant.within in omega arith);
  so_far = place_more c.args.names.now (c.loop-left.left - 1) c.loop-left.left _ (placed c.loop-left.places) (placed c.keep.new.places)
      (omega (arith, c.loop-left.invariant.within, c.loop-left-test.true)) (omega (arith, c.loop-left-test.true)) c.loop-left.invariant.so_far c.in_ok-keep.ensures;
}

pub returns : goal.returns
returns c = λ q.
    let end : c.loop-left.left ≡ 0 = omega (arith, c.loop-left-test.false) in
    subst (λ (n : ℕ). placed c.loop-left.places q ≡ place_from n (map (λ m. m.now) (drop n c.args.names.now)) q) end (c.loop-left.invariant.so_far q)

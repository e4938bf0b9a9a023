use Rattle.std.proofs.Common.{nat_eq}
use Rattle.literal_rules.specs.Sets.{has}
use Rattle.rule_words.proofs.AgainLemmas.{before_next}
use Rattle.literal_rules.proofs.AgainLemmas.{again_next}
use Rattle.literal_rules.proofs.again.has_again.Goals as goal
use Rattle.rule_words.specs.Again.{nth_of}

pub loop-i-preserved : goal.loop-i-preserved
loop-i-preserved c = record {
  found = again_next nat_eq (nth_of c.args.places.now) c.loop-i.i (has c.loop-i.met) c.nth.result c.loop-i.found c.in_ok-again.again _ c.nth.ensures c.loop-i.invariant.met c.in_ok-again.ensures.again c.loop-i.invariant.found c.either-found.ensures;
  met = before_next nat_eq (nth_of c.args.places.now) c.loop-i.i (has c.loop-i.met) c.nth.result (has c.meet.new.met) c.nth.ensures c.loop-i.invariant.met c.in_ok-again.ensures.notes;
}

use Rattle.std.proofs.Common.{ℕ, List, false, ◌||◌, option_map, sym, ap, ◌∙◌}
use Rattle.std.specs.Global.{Vec}
use Rattle.std.specs.Str.{bytes_eq}
use Rattle.literal_rules.specs.Sets.{spelled_key}
use Rattle.rule_words.proofs.AgainLemmas.{before_next}
use Rattle.literal_rules.proofs.AgainLemmas.{again_next}
use Rattle.literal_rules.proofs.KeyLemmas.{items_told}
use Rattle.literal_rules.proofs.maps.has_spelled_again.Goals as goal
use Rattle.rule_words.specs.Met.{holds}

pub loop-i-preserved : goal.loop-i-preserved
loop-i-preserved c =
    let nth = spelled_key c.args.s.now c.args.keys.now in
    let place = option_map (λ (v : Vec ℕ). v.items) c.in_ok-key.key in
    record {
      found = again_next bytes_eq nth c.loop-i.i (holds c.loop-i.met) place c.loop-i.found c.in_ok-again.again _ c.in_ok-key.ensures c.loop-i.invariant.met
          (c.in_ok-again.ensures.again ∙ items_told (holds c.loop-i.met) c.in_ok-key.key) c.loop-i.invariant.found c.either-found.ensures;
      met = before_next bytes_eq nth c.loop-i.i (holds c.loop-i.met) place (holds c.meet.new.met) c.in_ok-key.ensures c.loop-i.invariant.met
          (λ k. c.in_ok-again.ensures.notes k ∙ ap (λ b. holds c.loop-i.met k || b) (items_told (λ y. bytes_eq y k) c.in_ok-key.key));
    }

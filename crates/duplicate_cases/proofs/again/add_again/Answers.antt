use Rattle.std.proofs.Common.{ℕ, List, ◌||◌, ◌++◌, option_map, sym, ap, ◌∙◌, arith, length}
use Rattle.std.specs.Global.{Vec}
use Rattle.std.specs.Str.{bytes_eq}
use Rattle.package_objects.proofs.GatherLemmas.{gather_on, gather_all}
use Rattle.duplicate_cases.specs.InCode.{spelled_at, again_at}
use Rattle.rule_words.proofs.AgainLemmas.{before_next}
use Rattle.duplicate_cases.proofs.AgainLemmas.{items_told, again_told}
use Rattle.duplicate_cases.proofs.again.add_again.Goals as goal
use Rattle.rule_words.specs.Met.{holds}

pub loop-i-preserved : goal.loop-i-preserved
loop-i-preserved c =
    let nth = spelled_at c.args.s.now c.args.of_types c.args.marks.now in
    let place = option_map (λ (v : Vec ℕ). v.items) c.in_ok-key.key in
    record {
      out = gather_on (again_at nth c.args.file c.args.list.now) c.loop-i.i c.args.out.now.items c.loop-i.out.items c.push_if.new.out.items c.loop-i.invariant.out
          (c.in_ok-push_if.ensures ∙ ap (λ l. c.loop-i.out.items ++ l)
          (again_told nth c.args.file c.args.list.now c.loop-i.i c.item_at.result (holds c.loop-i.met) place c.in_ok-again.again c.item_at.ensures c.in_ok-key.ensures c.loop-i.invariant.met
          (c.in_ok-again.ensures.again ∙ items_told (holds c.loop-i.met) c.in_ok-key.key)));
      met = before_next bytes_eq nth c.loop-i.i (holds c.loop-i.met) place (holds c.meet.new.met) c.in_ok-key.ensures c.loop-i.invariant.met
          (λ k. c.in_ok-again.ensures.notes k ∙ ap (λ b. holds c.loop-i.met k || b) (items_told (λ y. bytes_eq y k) c.in_ok-key.key));
    }

pub returns : goal.returns
returns c =
    gather_all (again_at (spelled_at c.args.s.now c.args.of_types c.args.marks.now) c.args.file c.args.list.now) c.loop-i.i (length c.args.list.now) c.args.out.now.items c.loop-i.out.items
    (omega arith) (omega arith) c.loop-i.invariant.out

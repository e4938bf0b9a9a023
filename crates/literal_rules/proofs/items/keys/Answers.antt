use Rattle.std.proofs.Common.{◌+◌, option_map, sym, ap, ◌∙◌, subst, arith}
use Rattle.unit_read.specs.Subjects.{unit_of}
use Rattle.rule_words.specs.Scenes.{sight, said}
use Rattle.rule_words.proofs.PartLemmas.{Rests, rests_more, rests_end, rests_wait}
use Rattle.literal_rules.specs.Items.{item_ask}
use Rattle.literal_rules.specs.InCode.{keys_in, AreKeysOf}
use Rattle.literal_rules.proofs.ItemLemmas.{keys_last, marks_last}
use Rattle.literal_rules.proofs.items.keys.Goals as goal

pub loop-i-preserved : goal.loop-i-preserved
loop-i-preserved c =
    let s = c.args.s.now in
    let f = item_ask (unit_of c.args.u.now) c.args.block c.args.nodes.now in
    let out = c.loop-i.out.items in
    let key = c.in-Is.key in
    let items = c.in_ok-push-in-Is.ensures.items in
    record {
      rests = subst (Rests (sight s) f c.args.list.now (c.loop-i.i + 1)) (sym (ap (keys_in s) items ∙ keys_last s out key))
          (rests_more (sight s) f c.args.list.now c.loop-i.i (keys_in s out) c.listed-n.result (option_map (said s) key) c.listed-n.ensures (sym c.in-Is.ensures.is) c.loop-i.invariant.rests);
      over = subst (AreKeysOf s) (sym items) (marks_last s out key c.loop-i.invariant.over c.in-Is.ensures.over);
    }

pub returns-clause-is : goal.returns-clause-is
returns-clause-is c =
    let s = c.args.s.now in
    rests_end (sight s) (item_ask (unit_of c.args.u.now) c.args.block c.args.nodes.now) c.args.list.now c.loop-i.i (keys_in s c.loop-i.out.items) (omega arith) c.loop-i.invariant.rests

pub returns-in-Wait-clause-is : goal.returns-in-Wait-clause-is
returns-in-Wait-clause-is c =
    let s = c.args.s.now in
    rests_wait (sight s) (item_ask (unit_of c.args.u.now) c.args.block c.args.nodes.now) c.args.list.now c.loop-i.i (keys_in s c.loop-i.out.items) c.listed-n.result c.in-Wait.item
    c.listed-n.ensures (sym c.in-Wait.ensures.is) c.loop-i.invariant.rests

use Rattle.std.proofs.Common.{◌+◌, sym, ap, ◌∙◌, subst, arith}
use Rattle.unit_read.specs.Subjects.{unit_of}
use Rattle.rule_words.specs.Asking.{part_ask}
use Rattle.rule_words.specs.Scenes.{sight, part_in, parts_in, AreSeenOf}
use Rattle.rule_words.proofs.PartLemmas.{Rests, rests_more, rests_end, rests_wait, parts_last, seen_last}
use Rattle.rule_words.proofs.reading.parts.Goals as goal

pub loop-i-preserved : goal.loop-i-preserved
loop-i-preserved c =
    let s = c.args.s.now in
    let u = unit_of c.args.u.now in
    let out = c.loop-i.out.items in
    let seen = c.in-Is.seen in
    let items = c.in_ok-push-in-Is.ensures.items in
    record {
      rests = subst (Rests (sight s) (part_ask u c.args.stage c.args.block) c.args.list.now (c.loop-i.i + 1)) (sym (ap (parts_in s) items ∙ parts_last s out seen))
          (rests_more (sight s) (part_ask u c.args.stage c.args.block) c.args.list.now c.loop-i.i (parts_in s out) c.read_at-read.result (part_in s seen)
          c.read_at-read.ensures (sym c.in-Is.ensures.is) c.loop-i.invariant.rests);
      over = subst (AreSeenOf s) (sym items) (seen_last s out seen c.loop-i.invariant.over c.in-Is.ensures.over);
    }

pub returns-clause-is : goal.returns-clause-is
returns-clause-is c =
    let s = c.args.s.now in
    rests_end (sight s) (part_ask (unit_of c.args.u.now) c.args.stage c.args.block) c.args.list.now c.loop-i.i (parts_in s c.loop-i.out.items) (omega arith) c.loop-i.invariant.rests

pub returns-in-Wait-clause-is : goal.returns-in-Wait-clause-is
returns-in-Wait-clause-is c =
    let s = c.args.s.now in
    rests_wait (sight s) (part_ask (unit_of c.args.u.now) c.args.stage c.args.block) c.args.list.now c.loop-i.i (parts_in s c.loop-i.out.items) c.read_at-read.result c.in-Wait.item
    c.read_at-read.ensures (sym c.in-Wait.ensures.is) c.loop-i.invariant.rests

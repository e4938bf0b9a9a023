use Rattle.std.proofs.Common.{◌+◌, ◌-◌, ◌/◌, ◌++◌, ℕ, List, length, ap, arith, length-drop}
use Rattle.type_model.specs.Spelling.{words, text}
use Rattle.type_model.proofs.WordLaws.{words-begin, words-step, words-end}
use Rattle.type_model.proofs.spelling.push_text.Goals as goal

pub loop-i-init : goal.loop-i-init
loop-i-init c = record {
  spelled = words-begin c.args.bytes.now c.args.out.now.items c.push.new.self.items c.in_ok-push.ensures.items;
  size = omega arith;
}

pub word_of-requires : goal.word_of-requires
word_of-requires c = omega (arith, c.loop-i.invariant.size, c.loop-i-test.true)

pub loop-i-preserved : goal.loop-i-preserved
loop-i-preserved c = record {
  spelled = words-step ((length c.args.bytes.now + 7) / 8) c.loop-i._i c.word_of.result c.loop-i.out.items c.push-in-loop-i.new.self.items c.loop-i.rest.now c.after_word-rest.result.now
      (c.args.out.now.items ++ text c.args.bytes.now) c.loop-i-test.true c.word_of.ensures c.in_ok-push-2.ensures.items c.after_word-rest.ensures c.loop-i.invariant.spelled;
  size = omega (arith, c.loop-i.invariant.size, ap (λ (l : List ℕ). length l) c.after_word-rest.ensures, length-drop 8 c.loop-i.rest.now);
}

pub returns : goal.returns
returns c = words-end ((length c.args.bytes.now + 7) / 8) c.loop-i._i c.loop-i.out.items c.loop-i.rest.now (c.args.out.now.items ++ text c.args.bytes.now) (omega (arith, c.loop-i-test.false)) c.loop-i.invariant.spelled

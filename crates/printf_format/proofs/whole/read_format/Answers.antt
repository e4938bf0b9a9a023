use Rattle.std.proofs.Common.{◌<◌, ◌≤◌, ◌+◌, ◌*◌, ◌++◌, refl, sym, subst, arith}
use Rattle.printf_format.specs.declared.parts.Turn.TheVariants.{End, NoVerb, BadIndex}
use Rattle.printf_format.specs.Arguments.{next_of}
use Rattle.printf_format.specs.Formats.{Reads}
use Rattle.printf_format.proofs.Readings.{completes_more, completes_all, next_most}
use Rattle.printf_format.proofs.whole.read_format.Goals as goal

pub returns-in-End : goal.returns-in-End
returns-in-End c = record {
  last = End;
  reads = subst (λ l. Reads c.args.text.now 0 1 l End) (sym c.new.ensures) (completes_all _ _ _ _ End c.loop-list.invariant.completes c.in-End.ensures.turn tt);
  ends = refl;
}

pub returns-in-NoVerb : goal.returns-in-NoVerb
returns-in-NoVerb c = record {
  last = NoVerb c.in-NoVerb.at;
  reads = subst (λ l. Reads c.args.text.now 0 1 l (NoVerb c.in-NoVerb.at)) (sym c.new-in-NoVerb.ensures) (completes_all _ _ _ _ (NoVerb c.in-NoVerb.at) c.loop-list.invariant.completes c.in-NoVerb.ensures.turn tt);
  ends = refl;
}

pub returns-in-BadIndex : goal.returns-in-BadIndex
returns-in-BadIndex c = record {
  last = BadIndex c.in-BadIndex.at;
  reads = subst (λ l. Reads c.args.text.now 0 1 l (BadIndex c.in-BadIndex.at)) (sym c.new-in-BadIndex.ensures) (completes_all _ _ _ _ (BadIndex c.in-BadIndex.at) c.loop-list.invariant.completes c.in-BadIndex.ensures.turn tt);
  ends = refl;
}

pub loop-list-preserved : goal.loop-list-preserved
loop-list-preserved c =
    let within = c.in-Whole.ensures.within in
    let parts = c.in-Whole.parts in
    let before = within.0 in
    let reach = within.1.after in
    let after : c.loop-list.at < parts.end = omega (arith, before, reach) in
    record {
      within = within.1.within;
      small = subst (λ n. n ≤ 100000 + 3 * parts.end) (sym c.next_of-next.ensures) (next_most c.loop-list.at c.loop-list.next parts within.1.small c.loop-list.invariant.small after);
      completes = λ more last. subst (λ n. Reads c.args.text.now parts.end n more last → Reads c.args.text.now 0 1 (c.push.new.self.items ++ more) last) (sym c.next_of-next.ensures) (subst (λ l. Reads c.args.text.now parts.end (next_of c.loop-list.next parts) more last → Reads c.args.text.now 0 1 (l ++ more) last) (sym c.in_ok-push-in-Whole.ensures.items) (completes_more _ _ _ _ c.in-Whole.start parts _ c.loop-list.invariant.completes c.in-Whole.ensures.turn c.in_ok-directive-in-Whole.ensures more last));
    }

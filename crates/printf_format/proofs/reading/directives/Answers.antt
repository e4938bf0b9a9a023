use Rattle.std.proofs.Common.{◌<◌, ◌≤◌, ◌+◌, ◌*◌, ◌++◌, sym, subst, arith}
use Rattle.printf_format.specs.declared.format.Format.TheVariants as format
use Rattle.printf_format.specs.declared.parts.Turn.TheVariants.{End, NoVerb, BadIndex}
use Rattle.printf_format.specs.Arguments.{next_of}
use Rattle.printf_format.specs.Formats.{Reads}
use Rattle.printf_format.proofs.OneFormat.{one_format}
use Rattle.printf_format.proofs.Readings.{completes_more, completes_all, next_most}
use Rattle.printf_format.proofs.reading.directives.Goals as goal

pub returns-in-End-clause-format : goal.returns-in-End-clause-format
returns-in-End-clause-format c = subst (λ l. Reads c.args.text.now 0 1 l End) (sym c.new.ensures) (completes_all _ _ _ _ End c.loop-list.invariant.completes c.in-End.ensures.turn tt)

pub returns-in-End-clause-only : goal.returns-in-End-clause-only
returns-in-End-clause-only c = λ other is. one_format c.args.text.now (format.List c.new.result) other (subst (λ l. Reads c.args.text.now 0 1 l End) (sym c.new.ensures) (completes_all _ _ _ _ End c.loop-list.invariant.completes c.in-End.ensures.turn tt)) is

pub returns-in-NoVerb-clause-format : goal.returns-in-NoVerb-clause-format
returns-in-NoVerb-clause-format c = (c.loop-list.list.items, completes_all _ _ _ _ (NoVerb c.in-NoVerb.at) c.loop-list.invariant.completes c.in-NoVerb.ensures.turn tt)

pub returns-in-NoVerb-clause-only : goal.returns-in-NoVerb-clause-only
returns-in-NoVerb-clause-only c = λ other is. one_format c.args.text.now (format.NoVerb c.in-NoVerb.at) other (c.loop-list.list.items, completes_all _ _ _ _ (NoVerb c.in-NoVerb.at) c.loop-list.invariant.completes c.in-NoVerb.ensures.turn tt) is

pub returns-in-BadIndex-clause-format : goal.returns-in-BadIndex-clause-format
returns-in-BadIndex-clause-format c = (c.loop-list.list.items, completes_all _ _ _ _ (BadIndex c.in-BadIndex.at) c.loop-list.invariant.completes c.in-BadIndex.ensures.turn tt)

pub returns-in-BadIndex-clause-only : goal.returns-in-BadIndex-clause-only
returns-in-BadIndex-clause-only c = λ other is. one_format c.args.text.now (format.BadIndex c.in-BadIndex.at) other (c.loop-list.list.items, completes_all _ _ _ _ (BadIndex c.in-BadIndex.at) c.loop-list.invariant.completes c.in-BadIndex.ensures.turn tt) is

pub loop-list-preserved : goal.loop-list-preserved
loop-list-preserved c =
    let within = c.in-Whole.ensures.within in
    let parts = c.in-Whole.parts in
    let before = within.0 in
    let reach = within.1.after in
    let after : c.loop-list.at < parts.end = omega (arith, before, reach) in
    record {
      within = within.1.within;
      small = subst (λ n. n ≤ 100000 + 3 * parts.end) (sym c.next_of-next.ensures) (next_most c.loop-list.at c.loop-list.next parts within.1.small c.loop-list.invariant.small after);
      completes = λ more last. subst (λ n. Reads c.args.text.now parts.end n more last → Reads c.args.text.now 0 1 (c.push.new.self.items ++ more) last) (sym c.next_of-next.ensures) (subst (λ l. Reads c.args.text.now parts.end (next_of c.loop-list.next parts) more last → Reads c.args.text.now 0 1 (l ++ more) last) (sym c.in_ok-push-in-Whole.ensures.items) (completes_more _ _ _ _ c.in-Whole.start parts _ c.loop-list.invariant.completes c.in-Whole.ensures.turn c.in_ok-directive-in-Whole.ensures more last));
    }

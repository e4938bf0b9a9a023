use Rattle.report_text.proofs.PrintLemmas.{error-at}
use Rattle.report_text.proofs.print.push_error.Goals as goal

pub turn_to-requires-clause-within : goal.turn_to-requires-clause-within
turn_to-requires-clause-within c = (c.requires.stands c.in-Some.place c.in-Some.is).file

pub returns-in_ok-push_line-in-Some-clause-line : goal.returns-in_ok-push_line-in-Some-clause-line
returns-in_ok-push_line-in-Some-clause-line c =
    error-at c.args.files.now c.args.error.now c.in-Some.place _ _ _ _ _ c.in-Some.is c.in_ok-at-in-Some.ensures c.as_bytes-in-Some.ensures.value c.as_slice-in-Some.ensures c.in_ok-push_line-in-Some.ensures

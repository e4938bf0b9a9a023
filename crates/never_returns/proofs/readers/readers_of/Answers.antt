use Rattle.std.proofs.Common.{List, ℕ, length, subst}
use Rattle.std.proofs.lemmas.Option.{slice_get-get_or}
use Rattle.never_returns.specs.Bodies.{AreAdded}
use Rattle.never_returns.proofs.ReaderLemmas.{rows_more}
use Rattle.never_returns.proofs.readers.readers_of.Goals as goal

pub loop-i-preserved : goal.loop-i-preserved
loop-i-preserved c =
    rows_more c.args.files.now c.args.functions.now c.loop-i.i _ c.in_ok-found.found.items c.loop-i.rows.items c.add_readers.new.rows.items (slice_get-get_or c.args.functions.now c.loop-i.i _ c.loop-i-test.true) c.in_ok-found.ensures c.loop-i.invariant
    (subst (λ (l : List ℕ). AreAdded c.loop-i.i l (length l) c.loop-i.rows.items c.add_readers.new.rows.items) c.deref.ensures.value c.in_ok-add_readers.ensures)

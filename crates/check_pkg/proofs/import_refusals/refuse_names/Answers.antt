use Rattle.std.proofs.Common.{ℕ, length, sym, subst, arith}
use Rattle.std.proofs.lemmas.Option.{slice_get-get_or}
use Rattle.mark_walk.specs.Asks.{filled}
use Rattle.typed_marks.specs.Meanings.{Quiet}
use Rattle.typed_marks.specs.States.{so_far}
use Rattle.unit_read.specs.Index.{found}
use Rattle.unit_read.specs.Units.{nodes_at}
use Rattle.unit_read.specs.Subjects.{full_of, unit_of}
use Rattle.check_pkg.specs.ImportLists.{has, IsFirst, AreUsed, RefusesNthName}
use Rattle.check_pkg.proofs.GainLemmas.{below_none, below_more, below_all}
use Rattle.check_pkg.proofs.ImportLemmas.{named_at, name_gains, names_gain}
use Rattle.check_pkg.proofs.import_refusals.refuse_names.Goals as goal

pub loop-declared-init : goal.loop-declared-init
loop-declared-init c = below_none (RefusesNthName (full_of c.args.u.now) (filled Quiet (so_far c.args.s.now)) c.args.names.now) c.args.list.now.items

pub refuse_import-requires-clause-firsts : goal.refuse_import-requires-clause-firsts
refuse_import-requires-clause-firsts c = λ q.
    subst (λ (g : ℕ). IsFirst (full_of c.args.u.now) g q (found c.args.firsts.now q))
    (sym (named_at (full_of c.args.u.now) c.args.file c.args.names.now c.loop-declared.declared-index _ c.requires.names (slice_get-get_or c.args.names.now c.loop-declared.declared-index _ c.loop-declared-test.true)).0)
    (c.requires.firsts q)

pub refuse_import-requires-clause-used : goal.refuse_import-requires-clause-used
refuse_import-requires-clause-used c =
    subst (λ (g : ℕ). AreUsed (unit_of c.args.u.now) (filled Quiet (so_far c.args.s.now)) g (length (nodes_at (unit_of c.args.u.now) g)) (has c.args.used.now))
    (sym (named_at (full_of c.args.u.now) c.args.file c.args.names.now c.loop-declared.declared-index _ c.requires.names (slice_get-get_or c.args.names.now c.loop-declared.declared-index _ c.loop-declared-test.true)).0)
    c.requires.used

pub loop-declared-preserved : goal.loop-declared-preserved
loop-declared-preserved c =
    below_more (RefusesNthName (full_of c.args.u.now) (filled Quiet (so_far c.args.s.now)) c.args.names.now) c.loop-declared.declared-index c.args.list.now.items c.loop-declared.list.items c.refuse_import.new.list.items c.loop-declared.invariant
    (name_gains (full_of c.args.u.now) (filled Quiet (so_far c.args.s.now)) c.args.names.now c.loop-declared.declared-index _ c.loop-declared.list.items c.refuse_import.new.list.items
    (slice_get-get_or c.args.names.now c.loop-declared.declared-index _ c.loop-declared-test.true) c.in_ok-refuse_import.ensures)

pub returns : goal.returns
returns c =
    names_gain (full_of c.args.u.now) (filled Quiet (so_far c.args.s.now)) c.args.file c.args.names.now c.args.list.now.items c.loop-declared.list.items c.requires.names
    (below_all (RefusesNthName (full_of c.args.u.now) (filled Quiet (so_far c.args.s.now)) c.args.names.now) c.loop-declared.declared-index (length c.args.names.now) c.args.list.now.items c.loop-declared.list.items (omega arith) c.loop-declared.invariant)

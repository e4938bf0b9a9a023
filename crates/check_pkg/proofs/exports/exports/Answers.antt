use Rattle.mark_walk.specs.Asks.{filled}
use Rattle.typed_marks.specs.Meanings.{Quiet}
use Rattle.typed_marks.specs.States.{so_far}
use Rattle.unit_read.specs.Subjects.{unit_of}
use Rattle.check_pkg.specs.Interfaces.{IsExported}
use Rattle.check_pkg.specs.Exports.{outs_in}
use Rattle.check_pkg.proofs.ExportLemmas.{sorted_rises, all_sorted, outs_permuted, outs_sorted, within_sorted}
use Rattle.check_pkg.proofs.exports.exports.Goals as goal

pub returns-clause-rise : goal.returns-clause-rise
returns-clause-rise c =
    let s = c.args.s.now in
    sorted_rises (outs_in s c.in_ok-list.list.items) (outs_in s c.sort.new.list.items) c.in_ok-list.ensures.distinct
    (outs_permuted s c.in_ok-list.list.items c.sort.new.list.items c.sort.ensures.same) (outs_sorted s c.sort.new.list.items c.in_ok-sort.ensures.sorted)

pub returns-clause-all : goal.returns-clause-all
returns-clause-all c =
    let s = c.args.s.now in
    all_sorted (IsExported (unit_of c.args.u.now) (filled Quiet (so_far s))) (outs_in s c.in_ok-list.list.items) (outs_in s c.sort.new.list.items)
    (outs_permuted s c.in_ok-list.list.items c.sort.new.list.items c.sort.ensures.same) c.in_ok-list.ensures.all

pub returns-clause-within : goal.returns-clause-within
returns-clause-within c = within_sorted (unit_of c.args.u.now).path c.args.s.now c.in_ok-list.list.items c.sort.new.list.items c.sort.ensures.same c.in_ok-list.ensures.within

use Rattle.std.proofs.Common.{length, ap, ◌∙◌, arith}
use Rattle.mark_walk.specs.Asks.{filled}
use Rattle.typed_marks.specs.Meanings.{Quiet}
use Rattle.typed_marks.specs.States.{so_far}
use Rattle.unit_read.specs.Subjects.{unit_of}
use Rattle.check_pkg.specs.Exports.{outs_in}
use Rattle.check_pkg.proofs.ExportLemmas.{no_exports, none_within, exports_more, all_exports}
use Rattle.check_pkg.proofs.exports.unsorted.Goals as goal

pub loop-place-init : goal.loop-place-init
loop-place-init c = record {
  exports = no_exports (unit_of c.args.u.now) (filled Quiet (so_far c.args.s.now)) _ (ap (outs_in c.args.s.now) c.new-list.ensures.items);
  within = none_within (unit_of c.args.u.now).path c.args.s.now _ c.new-list.ensures.items;
}

pub add_export-requires-clause-within : goal.add_export-requires-clause-within
add_export-requires-clause-within c = c.loop-place.invariant.within

pub loop-place-preserved : goal.loop-place-preserved
loop-place-preserved c = record {
  exports = exports_more (unit_of c.args.u.now) (filled Quiet (so_far c.args.s.now)) c.loop-place.place (outs_in c.args.s.now c.loop-place.list.items)
      (outs_in c.args.s.now c.add_export.new.list.items) c.loop-place.invariant.exports c.in_ok-add_export.ensures.adds;
  within = c.in_ok-add_export.ensures.within;
}

pub returns-clause-all : goal.returns-clause-all
returns-clause-all c = λ out.
    all_exports (unit_of c.args.u.now) (filled Quiet (so_far c.args.s.now)) c.loop-place.place (outs_in c.args.s.now c.loop-place.list.items) (let e = ap length c.requires.block.names in omega arith) c.loop-place.invariant.exports out

pub returns-clause-distinct : goal.returns-clause-distinct
returns-clause-distinct c = c.loop-place.invariant.exports.distinct

pub returns-clause-within : goal.returns-clause-within
returns-clause-within c = c.loop-place.invariant.within

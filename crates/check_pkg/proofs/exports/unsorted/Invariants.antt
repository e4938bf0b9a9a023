use Rattle.mark_walk.specs.Asks.{filled}
use Rattle.typed_marks.specs.Meanings.{Quiet}
use Rattle.typed_marks.specs.States.{so_far}
use Rattle.unit_read.specs.Subjects.{unit_of}
use Rattle.package_faces.specs.Interfaces.{AreObjectsIn}
use Rattle.type_model.specs.Tables.{count, types_in}
use Rattle.check_pkg.specs.Exports.{outs_in}
use Rattle.check_pkg.proofs.ExportLemmas.{Exports}
use Rattle.check_pkg.proofs.exports.unsorted.Given as goal

abbrev pub invariant-loop-place : goal.invariant-loop-place
invariant-loop-place l = record {
  exports : Exports (unit_of l.u) (filled Quiet (so_far l.s)) l.place (outs_in l.s l.list.items);
  within : AreObjectsIn (unit_of l.u).path (count l.s.table) (types_in l.s.table) l.list.items;
}

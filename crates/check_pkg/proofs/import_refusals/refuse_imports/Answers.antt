use Rattle.std.proofs.Common.{length, arith}
use Rattle.mark_walk.specs.Asks.{filled}
use Rattle.typed_marks.specs.Meanings.{Quiet}
use Rattle.typed_marks.specs.States.{so_far}
use Rattle.unit_read.specs.Subjects.{full_of}
use Rattle.check_pkg.specs.ImportLists.{RefusesImports}
use Rattle.check_pkg.proofs.GainLemmas.{below_none, below_more, below_all}
use Rattle.check_pkg.proofs.import_refusals.refuse_imports.Goals as goal

pub loop-file-init : goal.loop-file-init
loop-file-init c = below_none (RefusesImports (full_of c.args.u.now) (filled Quiet (so_far c.args.s.now))) c.args.list.now.items

pub loop-file-preserved : goal.loop-file-preserved
loop-file-preserved c =
    below_more (RefusesImports (full_of c.args.u.now) (filled Quiet (so_far c.args.s.now))) c.loop-file.file c.args.list.now.items c.loop-file.list.items c.refuse_file.new.list.items c.loop-file.invariant c.in_ok-refuse_file.ensures

pub returns : goal.returns
returns c = below_all (RefusesImports (full_of c.args.u.now) (filled Quiet (so_far c.args.s.now))) c.loop-file.file (length c.args.u.now.trees.now) c.args.list.now.items c.loop-file.list.items (omega arith) c.loop-file.invariant

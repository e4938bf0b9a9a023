use Rattle.unit_read.specs.Environments.{faces_in}
use Rattle.check_pkg.specs.Packages.{known_of}
use Rattle.std.proofs.Common.{length, refl, ap, ◌++◌, arith}
use Rattle.std.proofs.lemmas.Option.{slice_get_read}
use Rattle.bind.specs.Imported.{imported}
use Rattle.check_pkg.specs.ImportLists.{pairs}
use Rattle.bind.proofs.StepLemmas.{imported_more, imported_end}
use Rattle.check_pkg.proofs.import_names.import_names.Goals as goal

pub loop-place-init : goal.loop-place-init
loop-place-init c = ap (λ l. pairs l ++ imported (known_of (faces_in c.args.env.now)) c.args.file c.args.specs.now c.args.lines.now) c.new-out.ensures.items

pub loop-place-preserved : goal.loop-place-preserved
loop-place-preserved c =
    let there = slice_get_read c.args.lines.now (length c.args.lines.now) c.loop-place.place c.index-lines-place.result refl (omega (arith, c.loop-place-test.true, c.requires.lines)) c.index-lines-place.is in
    imported_more (known_of (faces_in c.args.env.now)) c.args.file c.args.specs.now c.args.lines.now c.loop-place.place c.index-lines-place.result (pairs c.loop-place.out.items) (pairs c.push_import.new.out.items)
    (imported (known_of (faces_in c.args.env.now)) c.args.file c.args.specs.now c.args.lines.now) c.loop-place-test.true there c.loop-place.invariant c.in_ok-push_import.ensures

pub returns : goal.returns
returns c =
    imported_end (known_of (faces_in c.args.env.now)) c.args.file c.args.specs.now c.args.lines.now c.loop-place.place (pairs c.loop-place.out.items) (imported (known_of (faces_in c.args.env.now)) c.args.file c.args.specs.now c.args.lines.now)
    c.loop-place-test.false c.loop-place.invariant

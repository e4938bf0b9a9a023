use Rattle.std.proofs.Common.{◌<◌, List, ℕ, length, refl, sym, subst, arith}
use Rattle.std.proofs.lemmas.Option.{slice_get_read}
use Rattle.go_tree.specs.Pieces.{Spelled}
use Rattle.bind.proofs.ReadLemmas.{none_of, one_of, all_of}
use Rattle.bind.proofs.file.read_files.Goals as goal

pub read_locals-requires-clause-spelled : goal.read_locals-requires-clause-spelled
read_locals-requires-clause-spelled c =
    let files = c.args.files.now in
    let sources = c.args.sources.now in
    let there = slice_get_read files (length files) c.loop-at.at c.index-files-at.result refl c.loop-at-test.true c.index-files-at.is in
    let low : c.loop-at.at < length sources = omega (arith, c.loop-at-test.true, c.requires.spelled.size) in
    let source = slice_get_read sources (length sources) c.loop-at.at c.index-sources-at.result refl low c.index-sources-at.is in
    subst (λ (b : List ℕ). Spelled c.index-files-at.result.tokens b c.index-files-at.result) (sym c.bytes_of-bytes.ensures)
    (c.requires.spelled.spelled c.loop-at.at c.index-files-at.result c.index-sources-at.result there source)

pub read_locals-requires-clause-fit : goal.read_locals-requires-clause-fit
read_locals-requires-clause-fit c =
    let files = c.args.files.now in
    c.requires.fit c.loop-at.at c.index-files-at.result (slice_get_read files (length files) c.loop-at.at c.index-files-at.result refl c.loop-at-test.true c.index-files-at.is)

pub loop-at-init : goal.loop-at-init
loop-at-init c = none_of c.args.files.now c.args.sources.now c.new-read.result.items c.new-read.ensures.items

pub loop-at-preserved : goal.loop-at-preserved
loop-at-preserved c =
    let files = c.args.files.now in
    let sources = c.args.sources.now in
    let there = slice_get_read files (length files) c.loop-at.at c.index-files-at.result refl c.loop-at-test.true c.index-files-at.is in
    let low : c.loop-at.at < length sources = omega (arith, c.loop-at-test.true, c.requires.spelled.size) in
    let source = slice_get_read sources (length sources) c.loop-at.at c.index-sources-at.result refl low c.index-sources-at.is in
    one_of files sources c.loop-at.at c.loop-at.read.items _ _ c.index-files-at.result c.index-sources-at.result c.bytes_of-bytes.result.now c.loop-at.invariant c.in_ok-push.ensures.items
    there source c.path_of-path.ensures c.bytes_of-bytes.ensures refl refl c.in_ok-locals.ensures
    (c.requires.fit c.loop-at.at c.index-files-at.result there)

pub returns-clause-count : goal.returns-clause-count
returns-clause-count c = omega (arith, c.loop-at.invariant.count, c.loop-at-test.false, c.loop-at.auto.at-end)

pub returns-clause-fit : goal.returns-clause-fit
returns-clause-fit c = c.loop-at.invariant.fit

pub returns-clause-named : goal.returns-clause-named
returns-clause-named c = c.loop-at.invariant.named

pub returns-clause-read : goal.returns-clause-read
returns-clause-read c = all_of c.args.files.now c.args.sources.now c.loop-at.at c.loop-at.read.items c.loop-at-test.false c.loop-at.auto.at-end c.loop-at.invariant

use Rattle.std.proofs.Common.{◌≡◌, ℕ, length, refl, subst, arith}
use Rattle.std.proofs.lemmas.Option.{slice_get_read}
use Rattle.bind.specs.Collected.{AreUsesTo}
use Rattle.bind.specs.Places.{placed}
use Rattle.bind.specs.Tables.{found}
use Rattle.bind.proofs.StepLemmas.{files_more}
use Rattle.bind.proofs.uses.bind_files.Goals as goal

pub loop-at-preserved : goal.loop-at-preserved
loop-at-preserved c =
    let files = c.args.files.now in
    let there = slice_get_read files (length files) c.loop-at.at c.index-files-at.result refl c.loop-at-test.true c.index-files-at.is in
    files_more files c.args.named.now (found c.args.top_names.now) (placed c.args.universe.now) c.loop-at.at c.narrow.result c.index-files-at.result c.loop-at.uses.items c.bind_file.new.out.items
    there c.narrow.ensures c.loop-at.invariant c.in_ok-bind_file.ensures

pub returns : goal.returns
returns c =
    let end : c.loop-at.at ≡ length c.args.files.now = omega (arith, c.loop-at-test.false, c.loop-at.auto.at-end) in
    subst (λ (n : ℕ). AreUsesTo c.args.files.now c.args.named.now (found c.args.top_names.now) (placed c.args.universe.now) n c.loop-at.uses.items) end c.loop-at.invariant

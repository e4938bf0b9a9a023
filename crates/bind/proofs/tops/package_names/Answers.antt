use Rattle.std.proofs.Common.{◌≡◌, length, refl, ap, ◌∙◌, arith}
use Rattle.std.proofs.lemmas.Option.{slice_get_read}
use Rattle.bind.specs.Package.{tops_before}
use Rattle.bind.specs.Tables.{pairs}
use Rattle.bind.proofs.StepLemmas.{tops_before_more}
use Rattle.bind.proofs.tops.package_names.Goals as goal

pub loop-at-init : goal.loop-at-init
loop-at-init c = ap pairs c.new-out.ensures.items

pub loop-at-preserved : goal.loop-at-preserved
loop-at-preserved c =
    let files = c.args.files.now in
    let there = slice_get_read files (length files) c.loop-at.at c.index-files-at.result refl c.loop-at-test.true c.index-files-at.is in
    tops_before_more files c.loop-at.at c.narrow.result c.index-files-at.result (pairs c.loop-at.out.items) (pairs c.push_tops.new.out.items) there c.narrow.ensures c.loop-at.invariant c.in_ok-push_tops.ensures

pub returns : goal.returns
returns c =
    let end : c.loop-at.at ≡ length c.args.files.now = omega (arith, c.loop-at-test.false, c.loop-at.auto.at-end) in
    c.loop-at.invariant ∙ ap (λ n. tops_before c.args.files.now n) end

use Rattle.std.proofs.Common.{◌++◌, ◌∙◌, ℕ, List, ap}
use Rattle.fact_lines.specs.Lines.{package_lines}
use Rattle.fact_lines.proofs.LineLemmas.{package-more}
use Rattle.fact_lines.proofs.lines.all_facts.Goals as goal

pub loop-k-preserved : goal.loop-k-preserved
loop-k-preserved c =
    package-more c.args.packages.now c.args.facts.now c.loop-k.k c.index-packages-k.result c.index-facts-k.result c.loop-k.lines.items c.push_package.new.lines.items c.loop-k-test.true c.requires c.index-packages-k.is c.index-facts-k.is
    c.loop-k.invariant
    (let done = c.in_ok-push_package.ensures in
    let slice = c.as_slice.ensures in
    let p = c.index-packages-k.is in
    let f = c.index-facts-k.is in
    cc)

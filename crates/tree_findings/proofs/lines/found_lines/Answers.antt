use Rattle.tree_findings.specs.Lines.{all_lines, IsSettled}
use Rattle.std.proofs.Common.{subst}
use Rattle.tree_findings.proofs.LineLemmas.{settled-by}
use Rattle.tree_findings.proofs.lines.found_lines.Goals as goal

pub returns : goal.returns
returns c = settled-by (all_lines c.args.packages.now c.args.found.now) c.in_ok-lines.lines.items c.settle_found.new.found.items c.in_ok-lines.ensures c.settle_found.ensures.adds_none c.settle_found.ensures.keeps c.settle_found.ensures.rises
